-- After j turns the first j bytes of the part are stored. Assumes nothing.
use Rattle.std.proofs.Common.{◌≡◌, take, drop, length}
use Rattle.std.proofs.lemmas.List.Edits.{sets}
use Rattle.words.proofs.copy_part.Given as goal

abbrev pub invariant-loop-j : goal.invariant-loop-j
invariant-loop-j l = (l.out ≡ sets l.initial.out l.to (take l.j (drop l.at l.from))) × (length l.out ≡ length l.initial.out)
