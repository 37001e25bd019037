-- The prefix is n bytes longer than that of what is left of the pattern. Assumes nothing.
use Rattle.std.proofs.Common.{◌≡◌, ◌≤◌, ◌+◌, false, length}
use Rattle.text.specs.Pattern.{prefix_of}
use Rattle.text.proofs.prefix_len.Given as goal

abbrev pub invariant-loop-behind : goal.invariant-loop-behind
invariant-loop-behind l = (l.n + length l.rest ≤ length l.pattern) × (length (prefix_of false l.pattern) ≡ l.n + length (prefix_of false l.rest))

abbrev pub decreases-loop-behind : goal.decreases-loop-behind
decreases-loop-behind l = length l.rest
