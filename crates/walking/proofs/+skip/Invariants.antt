-- By the depth that is left. Assumes nothing.
use Rattle.walking.proofs.+skip.Given as goal

abbrev pub decreases-skip : goal.decreases-skip
decreases-skip l = l.depth
