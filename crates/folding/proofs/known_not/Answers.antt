-- Open over a truth-value column, else unhandled. Assumes nothing.
use Rattle.predicate.specs.Predicates.{read_zero, read_node}
use Rattle.folding.specs.Folds.{not_other}
use Rattle.folding.proofs.known_not.Goals as goal

pub returns-then-depth-eq0 : goal.returns-then-depth-eq0
returns-then-depth-eq0 c = rw (read_zero _ _ _ _ c.if-depth-eq0.true)

pub returns-in-TruthColumn : goal.returns-in-TruthColumn
returns-in-TruthColumn c = rw (read_node _ _ _ _ c.if-depth-eq0.false _ c.in-TruthColumn.ensures)

pub returns-in-IsNull : goal.returns-in-IsNull
returns-in-IsNull c = rw (read_node _ _ _ _ c.if-depth-eq0.false _ c.in-IsNull.ensures)

pub returns-in_default : goal.returns-in_default
returns-in_default c = rw (read_node _ _ _ _ c.if-depth-eq0.false _ c.node_at.ensures, not_other _ _ _ _ _ c.in_default.not-TruthColumn)
