-- What the members come to is what those before i come to, joined with those from i on. Assumes nothing.
use Rattle.std.proofs.Common.{◌≡◌, ◌+◌, ◌-◌}
use Rattle.words.specs.Word.{words_of}
use Rattle.predicate.specs.Predicates.{values_at}
use Rattle.table.specs.Tables.{known}
use Rattle.table.specs.Rewriting.{nested_table}
use Rattle.knowing.specs.Knowns.{members_known}
use Rattle.knowing.proofs.known_members.Given as goal

abbrev pub invariant-loop-i : goal.invariant-loop-i
invariant-loop-i l =
    known (nested_table l.r.schema.now l.m.negated l.m.column l.m.flips (values_at l.r.pool.now (words_of l.r.words.now) l.m.count l.first))
    ≡ members_known l.r.schema.now l.r.pool.now (words_of l.r.words.now) l.m.negated l.m.column l.m.flips l.k (l.m.count - l.i) (l.first + l.i)
