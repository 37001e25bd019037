-- The depth falls. Assumes nothing.
use Rattle.asking.proofs.+list_at.Given as goal

abbrev pub decreases-list_at : goal.decreases-list_at
decreases-list_at l = l.depth
