-- What checking comes to: the number of a refusal, or how far it has come; and the same of the code's answer. Assumes nothing.
use Rattle.std.specs.Prelude.{◌≡◌, ℕ, Result, Ok, Err, IsErrAnd}
use Rattle.std.proofs.Common.{arith, ap}
use Rattle.limits.specs.Refusals.{number_of}
use Rattle.limits.specs.declared.Refusal.{Refusal}
use Rattle.limits.specs.declared.Refusal.TheVariants.{BadSchema, BadLimit, NoRoom, Malformed, OverLimit, Misfit, BadContainers, BadTable, BadGrid, BadAnswers}
use Rattle.predicate.specs.declared.Progress.{Progress}

pub data Checked : Type 0 where
  Refused : ℕ → Checked
  Passed : Progress → Checked

abbrev pub outcome_of : Result Progress Refusal → Checked
outcome_of (Ok s) = Passed s
outcome_of (Err r) = Refused (number_of r)

-- what a refused part comes to
pub outcome_err : (x : Result Progress Refusal) (r : Refusal) → IsErrAnd x (λ y. y ≡ r) → outcome_of x ≡ Refused (number_of r)
outcome_err (Ok s) r h = absurd h
outcome_err (Err y) r h = ap (λ z. Refused (number_of z)) h

-- a refusal has a number
pub number_some : (r : Refusal) → number_of r ≡ 0 → ⊥
number_some BadSchema e = omega arith
number_some BadLimit e = omega arith
number_some NoRoom e = omega arith
number_some Malformed e = omega arith
number_some OverLimit e = omega arith
number_some Misfit e = omega arith
number_some BadContainers e = omega arith
number_some BadTable e = omega arith
number_some BadGrid e = omega arith
number_some BadAnswers e = omega arith
