-- Where the node was read, the predicate is the node's. Assumes nothing.
use Rattle.std.proofs.Common.{sym, ◌∙◌}
use Rattle.predicate.specs.Predicates.{read_node}
use Rattle.listing.specs.ListingLaws.{grown_none}
use Rattle.leaves.proofs.Laws.{not_other}
use Rattle.leaves.proofs.list_not.Goals as goal

pub list_column-requires : goal.list_column-requires
list_column-requires c =
    rw (read_node _ _ _ _ c.if-depth-eq0.false _ (sym c.in-TruthColumn.is ∙ c.node_at.ensures)) at c.requires

pub returns-in-TruthColumn : goal.returns-in-TruthColumn
returns-in-TruthColumn c =
    rw (read_node _ _ _ _ c.if-depth-eq0.false _ (sym c.in-TruthColumn.is ∙ c.node_at.ensures)) c.list_column.ensures

pub returns-in_default : goal.returns-in_default
returns-in_default c =
    rw (read_node _ _ _ _ c.if-depth-eq0.false _ c.node_at.ensures, not_other _ _ _ _ _ c.in_default.not-TruthColumn) (grown_none _ _ c.requires.front)
