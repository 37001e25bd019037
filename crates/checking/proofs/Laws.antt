-- What the code's parts come to: sums within a limit, refusals handed on, schemas byte by byte, texts inside the pool. Assumes nothing.
use Rattle.std.specs.Prelude.{◌≡◌, refl, Bool, true, false, ◌&&◌, List, [], ◌∷◌, ℕ, ◌+◌, ◌-◌, ◌≤◌, length, leb, nat_le, Result, Ok, Err, IsErrAnd}
use Rattle.std.specs.List.{list_all}
use Rattle.std.proofs.Common.{sym, ap, arith}
use Rattle.std.proofs.Math.Bool.{and_assoc}
use borrow.Author.Tests.{le-leb, lt-leb, leb-true, leb-false}
use Rattle.limits.specs.Refusals.{number_of, fault_of}
use Rattle.limits.specs.declared.Refusal.{Refusal}
use Rattle.literals.specs.Literals.{type_of, length_of, offset_of, integer_type, text_type, truth_type, suits}
use Rattle.literals.specs.LiteralLaws.{literal_text}
use Rattle.literals.specs.Suited.{suited}
use Rattle.predicate.specs.Checking.{types_fine}
use Rattle.predicate.specs.declared.Progress.{Progress}

-- a sum within a limit, tested without the sum
pub room_left : (a b n : ℕ) → a ≤ n → leb b (n - a) ≡ leb (a + b) n
room_left a b n h = go (leb (a + b) n) refl
  where
    go : (t : Bool) → leb (a + b) n ≡ t → leb b (n - a) ≡ t
    go true e = le-leb b (n - a) (omega (arith, leb-true (a + b) n e))
    go false e = lt-leb b (n - a) (omega (arith, leb-false (a + b) n e))

-- a refusal handed on
pub fault_err : (x : Result (Unit {0}) Refusal) (r : Refusal) → IsErrAnd x (λ y. y ≡ r) → fault_of x ≡ number_of r
fault_err (Ok u) r h = absurd h
fault_err (Err y) r h = ap number_of h

pub types_all : (l : List ℕ) → types_fine l ≡ list_all (λ b. nat_le integer_type b && nat_le b truth_type) l
unfolding types_fine
types_all [] = refl
types_all (b ∷ bs) = rw (types_all bs) (sym (and_assoc (leb integer_type b) (leb b truth_type) _))

pub start_is : (s : Progress) → (s.place ≡ 0) × ((s.nodes ≡ 0) × ((s.listed ≡ 0) × (s.bytes ≡ 0))) → s ≡ record { place = 0; nodes = 0; listed = 0; bytes = 0 }
start_is s h =
    let e : record { place = s.place; nodes = s.nodes; listed = s.listed; bytes = s.bytes } ≡ record { place = 0; nodes = 0; listed = 0; bytes = 0 } = cc in e

-- a text that suits lies inside the pool
pub text_inside : (pool : List ℕ) (type w : ℕ) → suits pool type w ≡ true → type_of w ≡ text_type → offset_of w + length_of w ≤ length pool
text_inside pool type w e k = (rw (literal_text pool w k) at (suited pool type w e)).2
