-- When rows fit a container's cells. Assumes nothing.
use Rattle.std.specs.Prelude.{◌≡◌, Bool, true, false, List, [], ◌∷◌, ℕ, suc, length, pos}
use Rattle.operators.specs.declared.Operator.TheVariants.{AtMost}
use Rattle.kleene.specs.declared.Truth.TheVariants.{True}
use Rattle.literals.specs.Literals.{Value, null, int, text, truth}
use Rattle.orders.specs.Values.{is_null, compared}
use Rattle.predicate.specs.declared.Column.{Column}
use Rattle.predicate.specs.Meaning.{Row, value_in}
use Rattle.predicate.specs.Rows.{In}
use Rattle.statistics.specs.declared.Statistic.TheVariants.{Least, Greatest, Blanks, Rows}
use Rattle.table.specs.Worth.{Cells}

-- how many rows have a blank in a column
abbrev pub one_if : Bool → ℕ → ℕ
one_if true n = suc n
one_if false n = n

abbrev pub blanks_in : Column → List Row → ℕ
blanks_in c [] = 0
blanks_in c (r ∷ rows) = one_if (is_null (value_in r c)) (blanks_in c rows)

-- a present count is the true one
abbrev pub Counts : Value → ℕ → Type 0
Counts null n = Unit {0}
Counts (int z) n = z ≡ pos n
Counts (text bs) n = ⊥
Counts (truth b) n = ⊥

-- a present bound lies at or below, at or above, every non-blank value; it need not occur
abbrev pub Bounds : Value → Value → Type 0
Bounds a b = (is_null a ≡ false) → (is_null b ≡ false) → compared AtMost a b ≡ True

pub record FitCells (cells : Cells) (rows : List Row) : Type 0 where
  pub count : Counts (cells Rows) (length rows)
  pub blanks : (c : Column) → Counts (cells (Blanks c)) (blanks_in c rows)
  pub least : (c : Column) (r : Row) → In r rows → Bounds (cells (Least c)) (value_in r c)
  pub greatest : (c : Column) (r : Row) → In r rows → Bounds (value_in r c) (cells (Greatest c))
