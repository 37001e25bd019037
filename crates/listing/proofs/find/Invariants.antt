-- The place is i more than that in what is left from word i on. Assumes nothing.
use Rattle.listing.proofs.Laws.{Left}
use Rattle.listing.proofs.find.Given as goal

abbrev pub invariant-loop-i : goal.invariant-loop-i
invariant-loop-i l = Left l.fn.s l.i l.list
