-- What is still to be stored, from n on, is the prefix of what is left of the pattern. Assumes nothing.
use Rattle.std.proofs.Common.{◌≡◌, ◌+◌, false, length}
use Rattle.std.proofs.lemmas.List.Edits.{sets}
use Rattle.text.specs.Pattern.{prefix_of}
use Rattle.text.proofs.write_prefix.Given as goal

abbrev pub invariant-loop-b : goal.invariant-loop-b
invariant-loop-b l =
    (sets l.initial.out l.to (prefix_of false l.pattern) ≡ sets l.out l.n (prefix_of false l.rest))
    × (l.to + length (prefix_of false l.pattern) ≡ l.n + length (prefix_of false l.rest))
    × (length l.out ≡ length l.initial.out)

abbrev pub decreases-loop-b : goal.decreases-loop-b
decreases-loop-b l = length l.rest
