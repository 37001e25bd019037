-- What is left of the columns is fine or not. Assumes nothing.
use Rattle.std.proofs.Common.{◌≡◌}
use Rattle.cells.specs.Columns.{columns_from}
use Rattle.cells.proofs.columns_fine.Given as goal

abbrev pub invariant-loop-p : goal.invariant-loop-p
invariant-loop-p l = columns_from l.schema l.pool l.list l.grid l.containers 0 ≡ columns_from l.schema l.pool l.list l.grid l.containers l.p
