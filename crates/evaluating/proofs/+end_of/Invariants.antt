-- The depth that is left falls. Assumes nothing.
use Rattle.evaluating.proofs.+end_of.Given as goal

abbrev pub decreases-end_of : goal.decreases-end_of
decreases-end_of l = l.depth
