-- Growing by the members that are left is growing by all. Assumes nothing.
use Rattle.words.specs.Word.{words_of}
use Rattle.predicate.specs.Predicates.{values_at}
use Rattle.table.specs.Rewriting.{members_lists}
use Rattle.std.proofs.Common.{◌+◌}
use Rattle.leaves.proofs.Laws.{rest_lists, Going}
use Rattle.leaves.proofs.list_members.Given as goal

abbrev pub invariant-loop-i : goal.invariant-loop-i
invariant-loop-i l =
    let ws = words_of l.r.words.now in
    Going (members_lists l.r.schema.now l.m.negated l.m.column l.m.flips (values_at l.r.pool.now ws l.m.count (l.m.at + 1))) l.n l.initial.list
    (rest_lists l.r.schema.now l.r.pool.now ws l.m.negated l.m.column l.m.flips l.m.count (l.m.at + 1) l.i) l.end l.list
