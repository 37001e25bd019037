-- Different numbers below n are at most n. Assumes nothing.
use Rattle.std.specs.Prelude.{◌≡◌, refl, Bool, true, false, cond, List, [], ◌∷◌, ℕ, zero, suc, ◌+◌, ◌≤◌, ◌<◌, length, eqb, ltb}
use Rattle.std.proofs.Common.{ap, ◌∙◌, arith, lt-ltb, le-ltb, ltb-true, ltb-false, eqb-true}
use Rattle.std.proofs.lemmas.Bool.{eqb-false}

-- a number that stands nowhere in a list
abbrev pub Absent : ℕ → List ℕ → Type 0
Absent x [] = Unit {0}
Absent x (y ∷ ys) = (x ≡ y → ⊥) × Absent x ys

-- no number stands twice
abbrev pub Different : List ℕ → Type 0
Different [] = Unit {0}
Different (x ∷ xs) = Absent x xs × Different xs

abbrev pub EachBelow : ℕ → List ℕ → Type 0
EachBelow n [] = Unit {0}
EachBelow n (x ∷ xs) = (x < n) × EachBelow n xs

-- how many are below n
unfoldable few : ℕ → List ℕ → ℕ
few n [] = 0
few n (x ∷ xs) = cond (ltb x n) (suc (few n xs)) (few n xs)

few_more : (n x : ℕ) (xs : List ℕ) → x < n → few n (x ∷ xs) ≡ suc (few n xs)
unfolding few
few_more n x xs h = rw (lt-ltb x n h)

few_same : (n x : ℕ) (xs : List ℕ) → n ≤ x → few n (x ∷ xs) ≡ few n xs
unfolding few
few_same n x xs h = rw (le-ltb x n h)

few_all : (n : ℕ) (xs : List ℕ) → EachBelow n xs → few n xs ≡ length xs
unfolding few
few_all n [] h = refl
few_all n (x ∷ xs) h = few_more n x xs h.0 ∙ ap suc (few_all n xs h.1)

few_none : (xs : List ℕ) → few 0 xs ≡ 0
unfolding few
few_none [] = refl
few_none (x ∷ xs) = few_same 0 x xs (omega arith) ∙ few_none xs

-- a head other than n is below n and below suc n, or below neither
few_other : (n x k : ℕ) (xs : List ℕ) → (n ≡ x → ⊥) → few (suc n) xs ≤ k + few n xs → few (suc n) (x ∷ xs) ≤ k + few n (x ∷ xs)
few_other n x k xs other h = go (ltb x n) refl
  where
    go : (t : Bool) → ltb x n ≡ t → few (suc n) (x ∷ xs) ≤ k + few n (x ∷ xs)
    go true e = let l = ltb-true x n e in omega (arith, few_more n x xs l, few_more (suc n) x xs (omega arith))
    go false e = let l = ltb-false x n e in omega (arith, few_same n x xs l, few_same (suc n) x xs (omega arith))

few_absent : (n : ℕ) (xs : List ℕ) → Absent n xs → few (suc n) xs ≤ 0 + few n xs
unfolding few
few_absent n [] h = omega arith
few_absent n (x ∷ xs) h = few_other n x 0 xs h.0 (few_absent n xs h.1)

few_next : (n : ℕ) (xs : List ℕ) → Different xs → few (suc n) xs ≤ 1 + few n xs
unfolding few
few_next n [] d = omega arith
few_next n (x ∷ xs) d = go (eqb n x) refl (few_next n xs d.1)
  where
    go : (t : Bool) → eqb n x ≡ t → few (suc n) xs ≤ 1 + few n xs → few (suc n) (x ∷ xs) ≤ 1 + few n (x ∷ xs)
    go true e h =
        let q : n ≡ x = eqb-true n x e in
        omega (arith, few_more (suc n) x xs (omega arith), few_same n x xs (omega arith), few_absent n xs (rw q d.0))
    go false e h = few_other n x 1 xs (eqb-false n x e) h

few_most : (n : ℕ) (xs : List ℕ) → Different xs → few n xs ≤ n
few_most zero xs d = omega (arith, few_none xs)
few_most (suc n) xs d = omega (arith, few_next n xs d, few_most n xs d)

pub pigeonhole : (n : ℕ) (xs : List ℕ) → Different xs → EachBelow n xs → length xs ≤ n
pigeonhole n xs d b = omega (arith, few_all n xs b, few_most n xs d)
