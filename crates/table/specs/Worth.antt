-- What a table is worth on a container's cells. Assumes nothing.
use Rattle.std.specs.Prelude.{pos}
use Rattle.operators.specs.declared.Operator.TheVariants.{NotEqual, Above}
use Rattle.kleene.specs.declared.Truth.{Truth}
use Rattle.kleene.specs.Truths.{truth_of, kleene, kleene_not}
use Rattle.literals.specs.Literals.{Value, int}
use Rattle.orders.specs.Values.{compared, compared_from, truth_in}
use Rattle.statistics.specs.declared.Statistic.{Statistic}
use Rattle.table.specs.Tables.{Table, always, both, against, positive, differ, holds, negation}

-- a container's cells, null where absent
abbrev pub Cells : Type 0
Cells = Statistic → Value

-- an absent cell, or a null literal, makes the node that reads it unknown
unfoldable pub worth : Cells → Table → Truth
worth cells (always b) = truth_of b
worth cells (both j l r) = kleene j (worth cells l) (worth cells r)
worth cells (against o s b v) = compared_from b o (cells s) v
worth cells (positive s) = compared Above (cells s) (int (pos 0))
worth cells (differ s t) = compared NotEqual (cells s) (cells t)
worth cells (holds s) = truth_in (cells s)
worth cells (negation t) = kleene_not (worth cells t)
