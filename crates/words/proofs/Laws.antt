-- What a copy into a slice stores, bytes read as a word, and the library's order of byte strings. Assumes nothing.
use Rattle.std.proofs.Common.{◌≡◌, refl, sym, ◌∙◌, List, [], ◌∷◌, drop, w64, ℕ, ◌+◌, ◌≤◌, ◌<◌, Bool, true, false, length, take, ◌-◌, take_all, length-drop, length-take-le, set, get_or, add-zero, add-one, arith, append_assoc, ltb, ltb-true, ltb-false, nat_cmp, Less, Equal, Greater}
use Rattle.std.proofs.Math.Seq.{paste, take-suc, get_or-drop}
use Rattle.std.proofs.lemmas.List.Edits.{sets, sets-eq, paste_all}
use Rattle.std.specs.Cmp.{nat_cmp_is}
use Rattle.std.specs.Cmp.Lexicographic.{slice_cmp}
use Rattle.std.specs.Int.{from_be_bytes}
use Rattle.std.proofs.Math.ListN.{get_or-eq_default}
use Rattle.words.specs.Word.{word_at}
use Rattle.words.specs.Stores.{sets_then}
use Rattle.words.specs.WordLaws.{word_drop}
use Rattle.words.specs.Bytes.{below, byte_order, below_first, order_below, order_above, order_self}

-- a copy of vs to place i of l stores them there, one after the other
pub paste_sets : (l vs : List ℕ) (i n : ℕ) → n ≡ length vs → i + length vs ≤ length l → paste l i vs n ≡ sets l i vs
paste_sets l vs i n e h = paste_all l i vs n e ∙ rw (e, ← append_assoc) (sym (sets-eq vs l i h))

-- eight bytes read high byte first
be_word : (l : List ℕ) → from_be_bytes w64 l ≡ word_at l 0
unfolding word_at
be_word l = omega arith

-- one byte more of a copy from s at at into d at to
pub copy_more : (d : List ℕ) (to : ℕ) (s : List ℕ) (at j : ℕ) → at + j < length s → set (sets d to (take j (drop at s))) (to + j) (get_or s (at + j) 0) ≡ sets d to (take (j + 1) (drop at s))
copy_more d to s at j k =
    let g : j < length (drop at s) = rw length-drop (omega arith) in
    let m : length (take j (drop at s)) ≡ j = length-take-le j (drop at s) (omega arith) in
    rw (← get_or-drop at s j 0, add-one, take-suc (drop at s) j 0 g)
    (sets_then d to (to + j) (take j (drop at s)) (get_or (drop at s) j 0 ∷ []) (rw m))

-- past the end all bytes count as 0
pub word_past : (s : List ℕ) (at : ℕ) → length s ≤ at → word_at s at ≡ 0
unfolding word_at
word_past s at h =
    rw (get_or-eq_default s 0 {n = at} h, get_or-eq_default s 0 {n = at + 1} (omega arith), get_or-eq_default s 0 {n = at + 2} (omega arith), get_or-eq_default s 0 {n = at + 3} (omega arith), get_or-eq_default s 0 {n = at + 4} (omega arith), get_or-eq_default s 0 {n = at + 5} (omega arith), get_or-eq_default s 0 {n = at + 6} (omega arith), get_or-eq_default s 0 {n = at + 7} (omega arith))

-- what is left from at on begins with the word at at
pub rest_word : (s : List ℕ) (at : ℕ) → word_at (take (length s - at) (drop at s)) 0 ≡ word_at s at
rest_word s at = rw (take_all (length s - at) (drop at s) (omega (arith, length-drop at s)), word_drop, add-zero)

-- the library's order of byte strings
pub slice_order : (a b : List ℕ) → slice_cmp nat_cmp a b ≡ byte_order a b
unfolding byte_order below
slice_order [] [] = refl
slice_order [] (y ∷ b) = refl
slice_order (x ∷ a) [] = refl
slice_order (x ∷ a) (y ∷ b) = go (ltb x y) (ltb y x) refl refl (slice_order a b)
  where
    go : (p q : Bool) → ltb x y ≡ p → ltb y x ≡ q → slice_cmp nat_cmp a b ≡ byte_order a b → slice_cmp nat_cmp (x ∷ a) (y ∷ b) ≡ byte_order (x ∷ a) (y ∷ b)
    go true q e f r =
        let l = ltb-true x y e in
        rw (← nat_cmp_is x y Less l) (sym (order_below (x ∷ a) (y ∷ b) (below_first x y a b l)))
    go false true e f r =
        let l = ltb-true y x f in
        rw (← nat_cmp_is x y Greater l) (sym (order_above (x ∷ a) (y ∷ b) (below_first y x b a l)))
    go false false e f r =
        let l = ltb-false x y e in
        let m = ltb-false y x f in
        let s : x ≡ y = omega arith in
        rw (← nat_cmp_is x y Equal s, s) (r ∙ sym (order_self y a b))
