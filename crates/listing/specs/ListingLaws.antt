-- The list at the front of a buffer: read back, grown by one, grown one after the other, and the room for all of it. Assumes nothing.
use Rattle.std.specs.Prelude.{◌≡◌, refl, false, drop}
use Rattle.std.proofs.Common.{sym, ap, ◌∙◌, zero-add, suc-add, arith, length-append, length-drop, take-append-drop, drop_of_length-le, take_at, drop_at}
use Rattle.std.proofs.Math.Option.{Option, some, none}
use mathlib.Core.List.{List, [], ◌∷◌, ◌++◌}
use Prim.Native.Nat.{ℕ, zero, suc, ◌+◌, ◌*◌, ◌/◌, ◌≤◌, ◌<◌}
use Rattle.std.proofs.Math.ListN.{length, take, get_or-append}
use Rattle.std.proofs.lemmas.List.Edits.{sets, sets-eq}
use Rattle.std.proofs.Math.Seq.{length-sets, length-take-le}
use Rattle.std.proofs.lemmas.List.{drop-append-le}
use Rattle.words.specs.Word.{word_at, word_bytes, first_words, words_of, bytes_of}
use Rattle.words.specs.WordLaws.{length_word, bytes_none, bytes_one, bytes_append, length_bytes, length_words}
use Rattle.words.specs.Stores.{written, sets_then, sets_written}
use Rattle.predicate.specs.declared.Column.{Column}
use Rattle.statistics.specs.declared.Statistic.{Statistic}
use Rattle.statistics.specs.declared.Statistic.TheVariants.{Least, Greatest}
use Rattle.statistics.specs.Statistics.{column_in, statistic_word, statistic_words, statistics_of, place_of, added, added_all}
use Rattle.statistics.specs.ListLaws.{Columns, place_most, added_old, added_new, all_none, all_cons, added_all_append, added_all_front, added_all_most, statistics_bytes_lem, length_statistics}
use Rattle.statistics.specs.Reading.{length_read}
use Rattle.literals.specs.Literals.{Value}
use Rattle.table.specs.Comparisons.{bounded_lists, pattern_upper, like_lists}
use Rattle.listing.specs.Listing.{list_of, listed_in, Few, Room, Grown, is_bounded, like_listed}

-- ---- words of bytes in two parts

word_front : (p q : List ℕ) → 8 ≤ length p → word_at (p ++ q) 0 ≡ word_at p 0
unfolding word_at
word_front p q h =
    rw (get_or-append p q 0 0 (omega arith), get_or-append p q 0 1 (omega arith), get_or-append p q 0 2 (omega arith), get_or-append p q 0 3 (omega arith), get_or-append p q 0 4 (omega arith), get_or-append p q 0 5 (omega arith), get_or-append p q 0 6 (omega arith), get_or-append p q 0 7 (omega arith))

first_append : (n m : ℕ) (p q : List ℕ) → length p ≡ 8 * n → first_words (n + m) (p ++ q) ≡ first_words n p ++ first_words m q
unfolding first_words
first_append zero m [] q e = rw zero-add
first_append zero m (x ∷ p) q e = absurd (omega arith)
first_append (suc n) m p q e =
    rw (suc-add, word_front p q (omega arith), drop-append-le 8 p q (omega arith), first_append n m (drop 8 p) q (rw length-drop (omega arith)))

words_append : (n : ℕ) (p q : List ℕ) → length p ≡ 8 * n → words_of (p ++ q) ≡ words_of p ++ words_of q
unfolding words_of
words_append n p q e =
    let a : length p / 8 ≡ n = omega arith in
    let b : length (p ++ q) / 8 ≡ n + length q / 8 = rw length-append (omega arith) in
    rw (a, b) (first_append n (length q / 8) p q e)

statistics_append : (a b : List ℕ) → statistics_of (a ++ b) ≡ statistics_of a ++ statistics_of b
unfolding statistics_of
statistics_append [] b = refl
statistics_append (w ∷ a) b = rw (statistics_append a b)

-- ---- the first n statistics

pub listed_length : (n : ℕ) (bs : List ℕ) → 8 * n ≤ length bs → length (listed_in n bs) ≡ n
unfolding listed_in
listed_length n bs h = rw (length_read, length_words, length-take-le (8 * n) bs h) (omega arith)

-- few statistics have places of one byte
pub place_few : (s : Statistic) (bs : List ℕ) → Few bs → place_of s (list_of bs) < 256
place_few s bs h =
    let l : length (list_of bs) ≡ length bs / 8 = rw (length_read, length_words) in
    omega (arith, place_most s (list_of bs))

-- a list that was written there is read back
pub listed_front : (S : List Statistic) (n : ℕ) (bs : List ℕ) → Columns 256 S → take (8 * n) bs ≡ bytes_of (statistic_words S) → listed_in n bs ≡ S
unfolding listed_in
listed_front S n bs c e = rw e (statistics_bytes_lem S c)

-- no statistics stand in front of all
pub listed_none : (bs : List ℕ) → listed_in 0 bs ≡ []
unfolding listed_in words_of first_words statistics_of
listed_none bs = refl

-- ---- one added

module _ (s : Statistic) (n : ℕ) (bs : List ℕ) (fits : 8 * n ≤ length bs) where
  added_one : added_all (listed_in n bs) (s ∷ []) ≡ added (listed_in n bs) s
  added_one = all_cons (listed_in n bs) s [] ∙ all_none (added (listed_in n bs) s)

  -- a listed one
  pub grown_old : place_of s (listed_in n bs) < n → Grown (s ∷ []) n bs bs n
  grown_old h =
      let S : List Statistic = listed_in n bs in
      let k : length S ≡ n = listed_length n bs fits in
      let e : added_all S (s ∷ []) ≡ S = added_one ∙ added_old S s (omega arith) in
      let d : drop n S ≡ [] = drop_of_length-le S {i = n} (omega arith) in
      record { count = rw e (sym k); bytes = rw (e, d, bytes_none); again = sym e }

  -- a new one has its room
  pub room_new : Room (s ∷ []) n bs → n ≤ place_of s (listed_in n bs) → 8 * n + 8 ≤ length bs
  room_new r h =
      let S : List Statistic = listed_in n bs in
      let k : length S ≡ n = listed_length n bs fits in
      let e : added_all S (s ∷ []) ≡ S ++ (s ∷ []) = added_one ∙ added_new S s (λ l. omega arith) in
      let w = rw (e, length-append) at r.whole in
      omega arith

  module _ (small : column_in s < 256) (room : 8 * n + 8 ≤ length bs) where
    word_list : statistics_of (words_of (word_bytes (statistic_word s))) ≡ s ∷ []
    word_list = ap (λ (l : List ℕ). statistics_of (words_of l)) (sym (bytes_one (statistic_word s))) ∙ statistics_bytes_lem (s ∷ []) (small, tt)

    read_back : listed_in (n + 1) (sets bs (8 * n) (word_bytes (statistic_word s))) ≡ listed_in n bs ++ (s ∷ [])
    unfolding listed_in
    read_back =
        let w : List ℕ = word_bytes (statistic_word s) in
        let l : length w ≡ 8 = length_word (statistic_word s) in
        let k : length (take (8 * n) bs) ≡ 8 * n = length-take-le (8 * n) bs fits in
        let f : length (take (8 * n) bs ++ w) ≡ 8 * (n + 1) = rw (length-append, k, l) (omega arith) in
        let t : take (8 * (n + 1)) (sets bs (8 * n) w) ≡ take (8 * n) bs ++ w =
        rw (sets-eq w bs (8 * n) (omega arith)) (take_at (take (8 * n) bs ++ w) (drop (8 * n + length w) bs) (8 * (n + 1)) f) in
        rw (t, words_append n (take (8 * n) bs) w k, statistics_append, word_list)

    pub grown_new : n ≤ place_of s (listed_in n bs) → Grown (s ∷ []) n bs (sets bs (8 * n) (word_bytes (statistic_word s))) (n + 1)
    grown_new h =
        let S : List Statistic = listed_in n bs in
        let k : length S ≡ n = listed_length n bs fits in
        let e : added_all S (s ∷ []) ≡ S ++ (s ∷ []) = added_one ∙ added_new S s (λ l. omega arith) in
        let d : drop n (S ++ (s ∷ [])) ≡ s ∷ [] = drop_at S (s ∷ []) n k in
        record { count = rw (e, length-append) (omega arith); bytes = rw (e, d, bytes_one); again = read_back ∙ sym e }

-- ---- one after the other

added_all_grows : (S ss : List Statistic) → length S ≤ length (added_all S ss)
added_all_grows S ss = let f = added_all_front S ss in rw (f.1, length-append) (omega arith)

words_add : (a b : List Statistic) → statistic_words (a ++ b) ≡ statistic_words a ++ statistic_words b
words_add [] b = refl
words_add (s ∷ a) b = rw (words_add a b)

pub grown_none : (n : ℕ) (bs : List ℕ) → 8 * n ≤ length bs → Grown [] n bs bs n
grown_none n bs h =
    let S : List Statistic = listed_in n bs in
    let k : length S ≡ n = listed_length n bs h in
    let e : added_all S [] ≡ S = all_none S in
    let d : drop n S ≡ [] = drop_of_length-le S {i = n} (omega arith) in
    record { count = rw e (sym k); bytes = rw (e, d, bytes_none); again = sym e }

module _ (ss ts : List Statistic) (n : ℕ) (old : List ℕ) where
  pub room_first : Room (ss ++ ts) n old → Room ss n old
  room_first h =
      let S : List Statistic = listed_in n old in
      let e : added_all S (ss ++ ts) ≡ added_all (added_all S ss) ts = added_all_append S ss ts in
      let g = added_all_grows (added_all S ss) ts in
      let w = rw e at h.whole in
      record { front = h.front; whole = omega arith }

  module _ (m : ℕ) (mid : List ℕ) (g : Grown ss n old mid m) where
    pub room_next : Room (ss ++ ts) n old → Room ts m mid
    room_next h =
        let S : List Statistic = listed_in n old in
        let T : List Statistic = added_all S ss in
        let e : added_all S (ss ++ ts) ≡ added_all T ts = added_all_append S ss ts in
        let k = added_all_grows T ts in
        let w = rw e at h.whole in
        let l : length mid ≡ length old = ap length g.bytes ∙ simp length-sets in
        let c : m ≡ length T = g.count in
        record { front = omega arith; whole = rw g.again (omega arith) }

    pub grown_then : (new : List ℕ) (r : ℕ) → 8 * n ≤ length old → Grown ts m mid new r → Grown (ss ++ ts) n old new r
    grown_then new r fits k =
        let S : List Statistic = listed_in n old in
        let T : List Statistic = added_all S ss in
        let U : List Statistic = added_all T ts in
        let e : added_all S (ss ++ ts) ≡ U = added_all_append S ss ts in
        let c : m ≡ length T = g.count in
        let a : length S ≡ n = listed_length n old fits in
        let f = added_all_front T ts in
        let i : length S ≤ length T = added_all_grows S ss in
        let p : drop n U ≡ drop n T ++ drop m U =
        rw (f.1, drop-append-le n T f.0 (omega arith), drop_at T f.0 m (sym c)) in
        let xs : List ℕ = bytes_of (statistic_words (drop n T)) in
        let j : 8 * m ≡ 8 * n + length xs = rw (length_bytes, length_statistics, length-drop) (omega arith) in
        record {
          count = rw e (rw g.again at k.count);
          bytes = rw (e, p, words_add, bytes_append, ← sets_then old (8 * n) (8 * m) xs (bytes_of (statistic_words (drop m U))) j, ← g.bytes) (rw g.again at k.bytes);
          again = rw e (rw g.again at k.again);
        }

-- ---- a whole list

-- a buffer whose front is the list S becomes one whose front is S with ss added
pub grown_front : (ss S : List Statistic) (n : ℕ) (old new : List ℕ) (r : ℕ) → n ≡ length S → Columns 256 S
    → take (8 * n) old ≡ bytes_of (statistic_words S) → Room ss n old → Grown ss n old new r
    → (r ≡ length (added_all S ss)) × (new ≡ written (bytes_of (statistic_words (added_all S ss))) old)
grown_front ss S n old new r e c t h g =
    let q : listed_in n old ≡ S = listed_front S n old c t in
    let f = added_all_front S ss in
    let T : List Statistic = added_all S ss in
    let xs : List ℕ = bytes_of (statistic_words S) in
    let ys : List ℕ = bytes_of (statistic_words f.0) in
    let w : 8 * length T ≤ length old = rw q at h.whole in
    let l : length xs ≡ 8 * n = rw (length_bytes, length_statistics, ← e) in
    let m : length ys ≡ 8 * length f.0 = rw (length_bytes, length_statistics) in
    let j : length T ≡ length S + length f.0 = rw f.1 (length-append S f.0) in
    let d : drop n T ≡ f.0 = rw f.1 (drop_at S f.0 n (sym e)) in
    let o : old ≡ written xs old = rw (l, ← t) (sym (take-append-drop (8 * n) old)) in
    let b : new ≡ sets old (length xs) ys = g.bytes ∙ rw (q, d, l) in (
      rw q at g.count,
      b ∙ ap (λ (x : List ℕ). sets x (length xs) ys) o ∙ sets_written xs old ys (omega arith) ∙ rw (f.1, words_add, bytes_append),
    )

-- all that a predicate lists, from none on: 193 statistics are room enough
pub room_all : (ss : List Statistic) (bs : List ℕ) → Columns 64 ss → 1544 ≤ length bs → Room ss 0 bs
room_all ss bs c h = let m = added_all_most 64 ss c in record { front = omega arith; whole = rw (listed_none bs) (omega arith) }

-- what a LIKE lists, by whether its pattern has an upper bound
pub like_listed_lem : (c : Column) (v : Value) → like_lists false c v ≡ like_listed c (is_bounded (pattern_upper v))
like_listed_lem c v = go (pattern_upper v)
  where
    go : (u : Option (List ℕ)) → Least c ∷ Greatest c ∷ bounded_lists c u ≡ like_listed c (is_bounded u)
    go none = refl
    go (some upper) = refl
