-- The statistics so far were added, and there is room for the others. Assumes nothing.
use Rattle.listing.proofs.Laws.{Added}
use Rattle.listing.proofs.list_all.Given as goal

abbrev pub invariant-loop-s : goal.invariant-loop-s
invariant-loop-s l = Added l.all l.s-index l.n l.initial.list l.list l.m
