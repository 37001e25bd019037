-- Each side is read at one less depth. Assumes nothing.
use Rattle.folding.proofs.+fold.Given as goal

abbrev pub decreases-fold : goal.decreases-fold
decreases-fold l = l.depth
