-- Runs of stores, one after the other, and what they leave at the front of a buffer. Assumes nothing.
use Rattle.std.specs.Prelude.{◌≡◌, refl, List, [], ◌∷◌, ◌++◌, ℕ, suc, ◌+◌, ◌≤◌, length, take, drop, set}
use Rattle.std.proofs.Common.{sym, ◌∙◌, add-zero, add-suc, suc-add, zero-add, arith, length-append, length-drop}
use Rattle.std.proofs.lemmas.List.Edits.{sets, sets-eq}
use Rattle.std.proofs.Math.Seq.{take-append_seam}

-- a buffer with its front overwritten
abbrev pub written : List ℕ → List ℕ → List ℕ
written bs l = bs ++ drop (length bs) l

-- two runs are one
pub sets_append : (l : List ℕ) (i : ℕ) (xs ys : List ℕ) → sets (sets l i xs) (i + length xs) ys ≡ sets l i (xs ++ ys)
sets_append l i [] ys = rw add-zero
sets_append l i (x ∷ xs) ys =
    let e : i + suc (length xs) ≡ suc i + length xs = add-suc i (length xs) ∙ sym (suc-add i (length xs)) in
    rw e (sets_append (set l i x) (suc i) xs ys)

-- the same, the second run's place and length known by equations
pub sets_then : (l : List ℕ) (i j : ℕ) (xs ys : List ℕ) → j ≡ i + length xs → sets (sets l i xs) j ys ≡ sets l i (xs ++ ys)
sets_then l i j xs ys e = rw e (sets_append l i xs ys)

-- a run of none, and of one
pub sets_none : (l : List ℕ) (i : ℕ) → sets l i [] ≡ l
sets_none l i = refl

pub sets_one : (l : List ℕ) (i v : ℕ) → sets l i (v ∷ []) ≡ set l i v
sets_one l i v = refl

-- a run at the front
pub sets_front : (l vs : List ℕ) → length vs ≤ length l → sets l 0 vs ≡ written vs l
sets_front l vs h = sets-eq vs l 0 (rw zero-add h) ∙ rw zero-add

pub length_written : (bs l : List ℕ) → length bs ≤ length l → length (written bs l) ≡ length l
length_written bs l h = simp (length-append, length-drop) (omega arith)

-- nothing written
pub written_none : (l : List ℕ) → written [] l ≡ l
written_none l = refl

-- a front of what was written is what was written
pub take_written : (bs l : List ℕ) → take (length bs) (written bs l) ≡ bs
take_written bs l = take-append_seam bs (drop (length bs) l)

-- a run behind what was written
pub sets_written : (bs l vs : List ℕ) → length bs + length vs ≤ length l → sets (written bs l) (length bs) vs ≡ written (bs ++ vs) l
sets_written bs l vs h =
    let r : sets l 0 bs ≡ written bs l = sets_front l bs (omega arith) in
    let f : sets l 0 (bs ++ vs) ≡ written (bs ++ vs) l = sets_front l (bs ++ vs) (rw length-append h) in
    rw (← r) (sets_then l 0 (length bs) bs vs (sym (zero-add (length bs))) ∙ f)
