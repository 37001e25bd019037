-- Rows of a schema. Assumes nothing.
use Rattle.std.specs.Prelude.{◌≡◌, ◌⊎◌, List, [], ◌∷◌, ℕ}
use Rattle.literals.specs.Literals.{Value, null, int, text, truth, integer_type, text_type, truth_type}
use Rattle.literals.specs.Signed.{Fits64}
use Rattle.text.specs.Utf8.{Utf8}
use Rattle.predicate.specs.declared.Column.{Column}
use Rattle.predicate.specs.Checking.{type_in}
use Rattle.predicate.specs.Meaning.{Row, value_in}

abbrev pub In : Row → List Row → Type 0
In r [] = ⊥
In r (x ∷ rows) = (r ≡ x) ⊎ In r rows

-- a value of a column's type, or a blank; integers have 64 bits, text is UTF-8
abbrev pub OfType : ℕ → Value → Type 0
OfType type null = Unit {0}
OfType type (int z) = (type ≡ integer_type) × Fits64 z
OfType type (text bs) = (type ≡ text_type) × Utf8 bs
OfType type (truth b) = type ≡ truth_type

abbrev pub RowOf : List ℕ → Row → Type 0
RowOf schema row = (c : Column) → OfType (type_in schema c.0) (value_in row c)
