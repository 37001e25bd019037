-- The depth falls. Assumes nothing.
use Rattle.promising.proofs.+write_guarantees.Given as goal

abbrev pub decreases-write_guarantees : goal.decreases-write_guarantees
decreases-write_guarantees l = l.depth
