-- Nodes of one word, a literal's bytes, and a statistic against a literal. Assumes nothing.
use mathlib.Core.Path.{◌≡◌, refl, ap, ◌∙◌}
use mathlib.Core.Bool.{Bool, true, false}
use Rattle.std.specs.Int.{from_bool}
use Rattle.std.proofs.Common.{◌⊎◌, inl, inr}
use mathlib.Core.List.{List, [], ◌∷◌}
use Prim.Native.Nat.{ℕ, ◌+◌, ◌^◌, ◌≤◌, ◌<◌}
use native.Mathlib.Nat.{add-zero}
use native.Mathlib.Omega.{arith}
use lib.ListN.{length, drop, length-drop}
use lib.Seq.{length-sets, length-take-le}
use Rattle.words.specs.Word.{range_of}
use Rattle.words.specs.Pools.{Inside, Cut}
use Rattle.words.specs.declared.Range.{Range}
use Rattle.operators.specs.Operators.{code_of}
use Rattle.operators.specs.declared.Operator.{Operator}
use Rattle.literals.specs.declared.Literal.{Literal}
use Rattle.literals.specs.declared.Literal.TheVariants.{Null, Int, Text, Truth}
use Rattle.literals.specs.Literals.{text, LiteralFits, Value, value_of, value_bytes, value_word, bit_of}
use Rattle.statistics.specs.declared.Statistic.{Statistic}
use Rattle.predicate.specs.declared.Column.{Column}
use Rattle.statistics.specs.declared.Statistic.TheVariants.{Blanks, Rows}
use Rattle.statistics.specs.Statistics.{place_of}
use Rattle.table.specs.Tables.{Table, against}
use Rattle.kleene.specs.declared.Joining.TheVariants.{And}
use Rattle.table.specs.Nests.{join_word}
use Rattle.table.specs.Comparisons.{has_values}
use Rattle.table.specs.Encoding.{table_word, differ_kind, against_kind, pool_of, table_words}
use Rattle.table.specs.Measures.{table_width}
use Rattle.listing.specs.Listing.{list_of}
use Rattle.writing.specs.declared.Spot.{Spot}
use Rattle.writing.specs.declared.Writer.{Writer}
use Rattle.writing.specs.WritingLaws.{wrap_words, spots, words_then}
use Rattle.writing.specs.WriterLaws.{heads_by}
use Rattle.writing.specs.Writing.{Wide, Room, Clipped, Head, Put, Wrote, HeadBy, WroteBy}

-- a node of one word
pub wrote_leaf : (t : Table) (list : List Statistic) (w : ℕ) (s r : Spot) (old new pool : List ℕ) → table_words list s.off t ≡ w ∷ []
    → pool_of t ≡ [] → table_width t ≡ 1 → Head (w ∷ []) s old new r → Wrote t list s old new pool pool r
wrote_leaf t list w s r old new pool e p n h =
    record { answer = h.answer ∙ rw (p, n, add-zero); table = h.table ∙ rw e; pool = rw p }

-- a range inside a pool has its length
pub range_length : (pool : List ℕ) (r : Range) → Inside pool r → length (range_of pool r) ≡ r.len
range_length pool r h = length-take-le r.len (drop r.at pool) (rw length-drop (omega arith))

module _ (o : Operator) (x : Statistic) (first : Bool) (v : Value) (s t : Spot) (old mid pool : List ℕ) (m : Room (against o x first v) s old pool) where
  pub against_word : Wide 1 s old
  against_word = let w = m.words in omega arith

  module _ (list : List Statistic) (h : Head (table_word against_kind (code_of o) (place_of x list) 0 (bit_of first) ∷ []) s old mid t) where
    pub against_room : Wide 1 t mid × (t.off + length (value_bytes v) ≤ length pool) × (t.off < 2 ^ 24)
    unfolding pool_of
    against_room =
        let w = m.words in
        let k = m.small in
        rw (h.answer, h.table) (rw length-sets (omega arith), m.bytes, omega arith)

    pub wrote_against : (r : Spot) (new new_pool : List ℕ) → Put (value_word t.off v ∷ []) (value_bytes v) t mid new pool new_pool r
        → Wrote (against o x first v) list s old new pool new_pool r
    unfolding table_words pool_of
    wrote_against r new new_pool p =
        let p' = rw (h.answer, h.table) at p in
        let w : ℕ = table_word against_kind (code_of o) (place_of x list) 0 (bit_of first) in
        record {
          answer = p'.answer ∙ spots (omega arith) refl;
          table = p'.table ∙ words_then old s.to (s.to + 1) (w ∷ []) (value_word s.off v ∷ []) refl;
          pool = p'.pool;
        }

-- ---- ranges cut to what a pool has

pub clip_text : (pool : List ℕ) (r k : Range) → LiteralFits (Text r) → Cut pool r k → Clipped pool (Text r) (Text k)
clip_text pool r k h c =
    let s = c.short in
    record { same = ap text c.same; ready = record { inside = c.inside; fits = omega arith } }

pub clip_other : (pool : List ℕ) (l : Literal) → ((r : Range) → l ≡ Text r → ⊥) → Clipped pool l l
clip_other pool Null h = record { same = refl; ready = record { inside = tt; fits = tt } }
clip_other pool (Int z) h = record { same = refl; ready = record { inside = tt; fits = tt } }
clip_other pool (Text r) h = absurd (h r refl)
clip_other pool (Truth b) h = record { same = refl; ready = record { inside = tt; fits = tt } }

-- a null and a truth value have no bytes
pub no_bytes : (pool : List ℕ) (l : Literal) → (l ≡ Null) ⊎ ((b : Bool) × (l ≡ Truth b)) → value_bytes (value_of pool l) ≡ []
no_bytes pool l (inl e) = rw e
no_bytes pool l (inr (b, e)) = rw e

-- a node of one word, said of a writer
pub leaf_by : (t : Table) (word : ℕ) (w v : Writer) → table_words (list_of w.list.now) w.at.off t ≡ word ∷ [] → pool_of t ≡ [] → table_width t ≡ 1
    → HeadBy (word ∷ []) w v → WroteBy t w v
leaf_by t word w v e p n h =
    record {
      wrote = rw h.pool (wrote_leaf t (list_of w.list.now) word w.at v.at w.table.now v.table.now w.pool.now e p n h.head);
      keeps = h.keeps;
    }

pub bit_from : (b : Bool) → from_bool b ≡ bit_of b
bit_from true = refl
bit_from false = refl

-- AND, and blanks ≠ rows behind it
pub wrap_by : (c : Column) (w v x : Writer) → HeadBy (join_word And ∷ []) w v → WroteBy (has_values c) v x
    → HeadBy (wrap_words (list_of w.list.now) c) w x
unfolding table_words pool_of
wrap_by c w v x h t =
    let L = list_of w.list.now in
    let e : table_words (list_of v.list.now) v.at.off (has_values c) ≡ table_word differ_kind 0 (place_of (Blanks c) L) (place_of Rows L) 0 ∷ [] =
    rw h.keeps.list in
    heads_by (join_word And ∷ []) (table_word differ_kind 0 (place_of (Blanks c) L) (place_of Rows L) 0 ∷ []) w v x h
    (record {
      head = record { answer = t.wrote.answer ∙ spots refl (add-zero v.at.off); table = t.wrote.table ∙ rw e };
      pool = t.wrote.pool;
      keeps = t.keeps;
    })
