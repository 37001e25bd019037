-- The words put so far, and one more. Assumes nothing.
use Rattle.table.specs.Nests.{join_word}
use Rattle.members.proofs.Laws.{joins_none, joins_more, joins_room}
use Rattle.members.proofs.put_joins.Goals as goal

pub loop-init : goal.loop-init
loop-init c = joins_none _

pub put_join-requires : goal.put_join-requires
put_join-requires c = joins_room _ _ (join_word c.args.j) _ _ c.loop-test.true c.requires c.loop.invariant

pub loop-preserved : goal.loop-preserved
loop-preserved c = joins_more c.loop.counter c.args.j _ _ _ c.loop.invariant c.put_join.ensures
