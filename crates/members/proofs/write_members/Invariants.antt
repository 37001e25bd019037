-- Writing the members that are left is writing all. Assumes nothing.
use Rattle.std.proofs.Common.{◌+◌}
use Rattle.words.specs.Word.{words_of}
use Rattle.members.specs.Members.{open_at}
use Rattle.members.proofs.Laws.{rest_open, Going}
use Rattle.members.proofs.write_members.Given as goal

abbrev pub invariant-loop-i : goal.invariant-loop-i
invariant-loop-i l =
    Going (open_at l.r.schema.now l.r.pool.now (words_of l.r.words.now) l.m.negated l.m.column l.m.flips l.m.count (l.m.at + 1)) l.initial.w
    (rest_open l.r.schema.now l.r.pool.now (words_of l.r.words.now) l.m.negated l.m.column l.m.flips l.m.count (l.m.at + 1) l.i) l.w
