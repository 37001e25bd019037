-- A text as a literal over itself. Assumes nothing.
use Rattle.std.specs.Prelude.{◌≡◌, List, ℕ, ◌^◌, ◌<◌, length}
use Rattle.std.proofs.Common.{ap}
use Rattle.std.proofs.Math.Seq.{take-length}
use Rattle.literals.specs.Literals.{text, value_of, LiteralFits}
use Rattle.literals.specs.declared.Literal.{Literal}
use Rattle.literals.specs.declared.Literal.TheVariants.{Text}

module _ (bs : List ℕ) (l : Literal) (e : l ≡ Text (record { at = 0; len = length bs })) where
  pub whole_is : value_of bs l ≡ text bs
  whole_is = rw e (ap text (take-length bs))

  pub whole_fits : length bs < 2 ^ 14 → LiteralFits l
  whole_fits h = rw e h
