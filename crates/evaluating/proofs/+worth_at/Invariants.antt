-- The depth that is left falls. Assumes nothing.
use Rattle.evaluating.proofs.+worth_at.Given as goal

abbrev pub decreases-worth_at : goal.decreases-worth_at
decreases-worth_at l = l.depth
