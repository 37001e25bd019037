-- What is left of the field gets shorter. Assumes nothing.
use Rattle.std.proofs.Common.{length}
use Rattle.replay_refusals.proofs.Buffer.fill.Given as goal

abbrev pub decreases-loop-rest : goal.decreases-loop-rest
decreases-loop-rest g l = length l.rest
