-- A truth-value column's table, else unhandled. Assumes nothing.
use Rattle.predicate.specs.Predicates.{read_zero, read_node}
use Rattle.folding.specs.Folds.{not_other}
use Rattle.emitting.proofs.write_not.Goals as goal

pub returns-then-depth-eq0 : goal.returns-then-depth-eq0
returns-then-depth-eq0 c = rw (read_zero _ _ _ _ c.if-depth-eq0.true) c.write_always.ensures

pub write_not_column-requires : goal.write_not_column-requires
write_not_column-requires c = (c.requires.0, rw (read_node _ _ _ _ c.if-depth-eq0.false _ c.in-TruthColumn.ensures) at c.requires.1)

pub returns-in-TruthColumn : goal.returns-in-TruthColumn
returns-in-TruthColumn c = rw (read_node _ _ _ _ c.if-depth-eq0.false _ c.in-TruthColumn.ensures) c.write_not_column.ensures

pub returns-in_default : goal.returns-in_default
returns-in_default c =
    rw (read_node _ _ _ _ c.if-depth-eq0.false _ c.node_at.ensures, not_other _ _ _ _ _ c.in_default.not-TruthColumn) c.write_always-in_default.ensures
