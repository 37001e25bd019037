-- The words put so far. Assumes nothing.
use Rattle.std.proofs.Common.{replicate}
use Rattle.table.specs.Nests.{join_word}
use Rattle.writing.specs.Writing.{HeadBy}
use Rattle.members.proofs.put_joins.Given as goal

abbrev pub invariant-loop : goal.invariant-loop
invariant-loop l = HeadBy (replicate l.counter (join_word l.j)) l.initial.w l.w
