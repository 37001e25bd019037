-- The upper bound of a LIKE pattern, if it has one, by document 01's rule for one character; proofs/Upper.antt has that a match lies
-- between prefix and upper bound. Assumes nothing.
use Rattle.std.specs.Prelude.{Bool, true, false, cond, List, [], ◌∷◌, ℕ, ◌+◌, ◌≤◌, length}
use Rattle.std.proofs.Common.{arith}
use Rattle.std.proofs.Math.Option.{Option, some}
use Rattle.text.specs.Increment.{raised}
use Rattle.text.specs.Chars.{incremented}
use Rattle.text.specs.Pattern.{ends_at, opens_at, kept, last, prefix_of, rest_of}

-- document 01's rule for one character; what follows asks only that it raises
abbrev pub rule : ℕ → Option ℕ
rule = raised

abbrev pub increment_of : List ℕ → Option (List ℕ)
increment_of bs = incremented rule bs

-- the prefix itself where no wildcard is left, else its increment
abbrev pub pick : List ℕ → List ℕ → Option (List ℕ) → Option (List ℕ)
pick [] prefix upper = some prefix
pick (w ∷ rest) prefix upper = upper

-- the upper bound; an empty prefix before a wildcard has no increment
abbrev pub upper_of : List ℕ → Option (List ℕ)
upper_of p = pick (rest_of false p) (prefix_of false p) (increment_of (prefix_of false p))

-- ---- lengths

prefix_room : (e : Bool) (p : List ℕ) → length (prefix_of e p) ≤ length (last e) + length p
unfolding prefix_of
prefix_room e [] = omega arith
prefix_room true (c ∷ p) = let h = prefix_room false p in omega arith
prefix_room false (c ∷ p) = go (ends_at false c) (opens_at false c) (λ e. prefix_room e p)
  where
    go : (x y : Bool) → ((e : Bool) → length (prefix_of e p) ≤ length (last e) + length p)
        → length (cond x [] (kept y c (prefix_of y p))) ≤ 0 + length (c ∷ p)
    go true y h = omega arith
    go false true h = let k = h true in omega arith
    go false false h = let k = h false in omega arith

pub prefix_length : (p : List ℕ) → length (prefix_of false p) ≤ length p
prefix_length p = let h = prefix_room false p in omega arith
