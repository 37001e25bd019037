-- By the depth that is left. Assumes nothing.
use Rattle.checking.proofs.+check.Given as goal

abbrev pub decreases-check : goal.decreases-check
decreases-check l = l.depth
