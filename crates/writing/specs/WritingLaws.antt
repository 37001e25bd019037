-- How written parts join: words in front of a table, a join of two tables, and the room that is left behind each. Assumes nothing.
use Rattle.std.specs.Prelude.{◌≡◌, List, [], ◌∷◌, ◌++◌, ℕ, zero, suc, ◌+◌, ◌*◌, length}
use Rattle.std.proofs.Math.Path.{refl}
use Rattle.std.proofs.Common.{◌∙◌, add-zero}
use native.Mathlib.Omega.{arith}
use Rattle.std.proofs.Math.ListN.{length-append}
use Rattle.std.proofs.lemmas.List.Edits.{sets}
use Rattle.std.proofs.Math.Seq.{length-sets}
use Rattle.words.specs.Word.{bytes_of}
use Rattle.words.specs.WordLaws.{bytes_append, length_bytes}
use Rattle.words.specs.Stores.{sets_then}
use Rattle.words.specs.LayoutLaws.{field_below}
use Rattle.literals.specs.Literals.{literal_layout, type_of, literal_of, LiteralFits}
use Rattle.literals.specs.LiteralLaws.{literal_null_lem, literal_int, literal_text, literal_truth}
use Rattle.kleene.specs.declared.Joining.{Joining}
use Rattle.kleene.specs.declared.Joining.TheVariants.{And}
use Rattle.predicate.specs.declared.Column.{Column}
use Rattle.statistics.specs.declared.Statistic.{Statistic}
use Rattle.statistics.specs.declared.Statistic.TheVariants.{Blanks, Rows}
use Rattle.statistics.specs.Statistics.{place_of}
use Rattle.table.specs.Tables.{Table, both, negation}
use Rattle.table.specs.Comparisons.{wrapped}
use Rattle.table.specs.Nests.{join_word}
use Rattle.table.specs.Encoding.{table_word, differ_kind, negation_kind, pool_of, table_words}
use Rattle.table.specs.Measures.{table_width, width_is}
use Rattle.writing.specs.declared.Spot.{Spot}
use Rattle.writing.specs.Writing.{Wide, Room, Head, Wrote}

-- the word of a NOT
abbrev pub not_word : ℕ
not_word = table_word negation_kind 0 0 0 0

-- the words in front of what is wrapped: AND, blanks ≠ rows
abbrev pub wrap_words : List Statistic → Column → List ℕ
wrap_words list c = join_word And ∷ table_word differ_kind 0 (place_of (Blanks c) list) (place_of Rows list) 0 ∷ []

pub spots : {i j m n : ℕ} → i ≡ j → m ≡ n → ◌≡◌ {A = Spot} (record { to = i; off = m }) (record { to = j; off = n })
spots p q = cc

-- ---- one run of words behind another

pub words_then : (old : List ℕ) (to j : ℕ) (xs ys : List ℕ) → j ≡ to + length xs
    → sets (sets old (8 * to) (bytes_of xs)) (8 * j) (bytes_of ys) ≡ sets old (8 * to) (bytes_of (xs ++ ys))
words_then old to j xs ys e =
    let l : 8 * j ≡ 8 * to + length (bytes_of xs) = rw length_bytes (omega arith) in
    sets_then old (8 * to) (8 * j) (bytes_of xs) (bytes_of ys) l ∙ rw bytes_append

pub head_then : (xs ys : List ℕ) (s t r : Spot) (old mid new : List ℕ) → Head xs s old mid t → Head ys t mid new r → Head (xs ++ ys) s old new r
head_then xs ys s t r old mid new h k =
    let k' = rw (h.answer, h.table) at k in
    record {
      answer = k'.answer ∙ rw length-append (spots (omega arith) refl);
      table = k'.table ∙ words_then old s.to (s.to + length xs) xs ys refl;
    }

-- ---- words in front of tables

module _ (list : List Statistic) (s t r : Spot) (old mid new pool new_pool : List ℕ) where
  -- a join's word, and one side that has no literals, in front of the other side
  pub wrote_wrapped : (c : Column) (x : Table) → Head (wrap_words list c) s old mid t → Wrote x list t mid new pool new_pool r
      → Wrote (wrapped c x) list s old new pool new_pool r
  unfolding table_words pool_of
  wrote_wrapped c x h w =
      let w' = rw (h.answer, h.table) at w in
      record {
        answer = w'.answer ∙ spots (omega arith) refl;
        table = w'.table ∙ words_then old s.to (s.to + 2) (wrap_words list c) (table_words list s.off x) refl ∙ rw (add-zero s.off);
        pool = w'.pool;
      }

  -- a NOT's word in front of its table
  pub wrote_negation : (x : Table) → Head (not_word ∷ []) s old mid t → Wrote x list t mid new pool new_pool r
      → Wrote (negation x) list s old new pool new_pool r
  unfolding table_words pool_of
  wrote_negation x h w =
      let w' = rw (h.answer, h.table) at w in
      record {
        answer = w'.answer ∙ spots (omega arith) refl;
        table = w'.table ∙ words_then old s.to (s.to + 1) (not_word ∷ []) (table_words list s.off x) refl;
        pool = w'.pool;
      }

-- a join: its word, the left side, the right side
pub wrote_both : (list : List Statistic) (j : Joining) (x y : Table) (s t u r : Spot) (old mid mid₂ new pool pool₂ new_pool : List ℕ)
    → Head (join_word j ∷ []) s old mid t → Wrote x list t mid mid₂ pool pool₂ u → Wrote y list u mid₂ new pool₂ new_pool r
    → Wrote (both j x y) list s old new pool new_pool r
unfolding table_words pool_of
wrote_both list j x y s t u r old mid mid₂ new pool pool₂ new_pool h a b =
    let a' = rw (h.answer, h.table) at a in
    let b' = rw (a'.answer, a'.table, a'.pool) at b in
    let xs : List ℕ = table_words list s.off x in
    let n : length xs ≡ table_width x = width_is list s.off x in
    let ys : List ℕ = table_words list (s.off + length (pool_of x)) y in
    let e : sets (sets old (8 * s.to) (bytes_of (join_word j ∷ []))) (8 * (s.to + 1)) (bytes_of xs) ≡ sets old (8 * s.to) (bytes_of (join_word j ∷ xs)) =
    words_then old s.to (s.to + 1) (join_word j ∷ []) xs refl in
    record {
      answer = b'.answer ∙ rw length-append (spots (omega arith) (omega arith));
      table = b'.table ∙ rw e (words_then old s.to (s.to + 1 + table_width x) (join_word j ∷ xs) ys (omega arith));
      pool = b'.pool ∙ sets_then pool s.off (s.off + length (pool_of x)) (pool_of x) (pool_of y) refl;
    }

-- ---- the room behind what was written

pub wide_head : (n : ℕ) (ws : List ℕ) (s t : Spot) (old mid : List ℕ) → Wide (length ws + n) s old → Head ws s old mid t → Wide n t mid
wide_head n ws s t old mid w h = rw (h.answer, h.table, length-sets) (omega arith)

pub wide_wrote : (n : ℕ) (x : Table) (list : List Statistic) (s t : Spot) (old mid pool new_pool : List ℕ) → Wide (table_width x + n) s old
    → Wrote x list s old mid pool new_pool t → Wide n t mid
wide_wrote n x list s t old mid pool new_pool w h = rw (h.answer, h.table, length-sets) (omega arith)

pub room_wrapped : (list : List Statistic) (c : Column) (x : Table) (s t : Spot) (old mid pool : List ℕ) → Room (wrapped c x) s old pool
    → Head (wrap_words list c) s old mid t → Room x t mid pool
unfolding pool_of
room_wrapped list c x s t old mid pool m h =
    let w = m.words in
    rw (h.answer, h.table) (record { words = rw length-sets (omega arith); bytes = m.bytes; small = m.small })

pub room_negation : (x : Table) (s t : Spot) (old mid pool : List ℕ) → Room (negation x) s old pool → Head (not_word ∷ []) s old mid t → Room x t mid pool
unfolding pool_of
room_negation x s t old mid pool m h =
    let w = m.words in
    rw (h.answer, h.table) (record { words = rw length-sets (omega arith); bytes = m.bytes; small = m.small })

pub room_word : (j : Joining) (x y : Table) (s : Spot) (old pool : List ℕ) → Room (both j x y) s old pool → Wide 1 s old
room_word j x y s old pool m = let w = m.words in omega arith

module _ (j : Joining) (x y : Table) (s t : Spot) (old mid pool : List ℕ) (m : Room (both j x y) s old pool) (h : Head (join_word j ∷ []) s old mid t) where
  pub room_left : Room x t mid pool
  unfolding pool_of
  room_left =
      let w = m.words in
      let b = m.bytes in
      let k = m.small in
      let n = length-append (pool_of x) (pool_of y) in
      rw (h.answer, h.table) (record { words = rw length-sets (omega arith); bytes = omega arith; small = omega arith })

  pub room_right : (list : List Statistic) (u : Spot) (mid₂ pool₂ : List ℕ) → Wrote x list t mid mid₂ pool pool₂ u → Room y u mid₂ pool₂
  unfolding pool_of
  room_right list u mid₂ pool₂ a =
      let w = m.words in
      let b = m.bytes in
      let k = m.small in
      let n = length-append (pool_of x) (pool_of y) in
      let a' = rw (h.answer, h.table) at a in
      rw (a'.answer, a'.table, a'.pool)
      (record { words = rw (length-sets, length-sets) (omega arith); bytes = rw length-sets (omega arith); small = omega arith })

-- ---- literals that were read from a word fit one

pub literal_fits : (pool : List ℕ) (w : ℕ) → LiteralFits (literal_of pool w)
literal_fits pool w = go (type_of w) refl
  where
    go : (k : ℕ) → type_of w ≡ k → LiteralFits (literal_of pool w)
    go zero e = rw (literal_null_lem pool w e) tt
    go (suc zero) e = rw (literal_int pool w e) tt
    go (suc (suc zero)) e = rw (literal_text pool w e) (field_below literal_layout 1 w (omega arith))
    go (suc (suc (suc zero))) e = rw (literal_truth pool w e) tt
    go (suc (suc (suc (suc k)))) e = absurd (omega (arith, field_below literal_layout 0 w (omega arith)))
