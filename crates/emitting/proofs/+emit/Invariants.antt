-- A node's depth is one more than its sides', and a join is between both. Assumes nothing.
use Rattle.std.proofs.Common.{◌+◌, ◌*◌}
use Rattle.emitting.proofs.+emit.Given as goal

abbrev pub decreases-emit : goal.decreases-emit
decreases-emit l = 2 * l.depth

abbrev pub decreases-emit_join : goal.decreases-emit_join
decreases-emit_join l = 2 * l.depth + 1
