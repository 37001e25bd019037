-- The pattern has the rest that what is left of it has. Assumes nothing.
use Rattle.std.proofs.Common.{◌≡◌, false, length}
use Rattle.text.specs.Pattern.{rest_of}
use Rattle.text.proofs.split_constant_prefix.Given as goal

abbrev pub invariant-loop-behind : goal.invariant-loop-behind
invariant-loop-behind l = rest_of false l.pattern ≡ rest_of false l.rest

abbrev pub decreases-loop-behind : goal.decreases-loop-behind
decreases-loop-behind l = length l.rest
