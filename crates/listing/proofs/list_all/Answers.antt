-- One statistic more has its room, and is added behind those so far. Assumes nothing.
use Rattle.listing.proofs.Laws.{added_none, room_one, added_one}
use Rattle.listing.proofs.list_all.Goals as goal

pub loop-s-init : goal.loop-s-init
loop-s-init c = added_none c.args.all.now c.args.n c.args.list.now c.requires

pub add-m-requires : goal.add-m-requires
add-m-requires c = room_one c.args.all.now c.loop-s.s-index c.args.n c.args.list.now c.loop-s.list c.loop-s.m c.loop-s.invariant _ c.loop-s-test.true

pub loop-s-preserved : goal.loop-s-preserved
loop-s-preserved c =
    added_one c.args.all.now c.loop-s.s-index c.args.n c.args.list.now c.loop-s.list c.loop-s.m c.loop-s.invariant _ c.loop-s-test.true c.add-m.new.list c.add-m.result c.add-m.ensures
