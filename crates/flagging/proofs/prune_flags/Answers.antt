-- After i turns the first i flags are stored. Assumes nothing.
use Rattle.std.proofs.Math.Path.{refl}
use Rattle.flagging.specs.Flags.{flags_none, flag_at, flag_stored}
use Rattle.flagging.proofs.prune_flags.Goals as goal

pub loop-i-init : goal.loop-i-init
loop-i-init c = (refl, refl, refl, rw flags_none)

pub loop-i-preserved : goal.loop-i-preserved
loop-i-preserved c =
    let x = c.args.c.now in
    let l = c.loop-i in
    let i = l.invariant in (
      i.0,
      i.1,
      i.2,
      rw i.3
          (flag_stored x.list.now x.pool.now x.table.now x.guarantees.now x.cells.now x.grid.now x.answers.now c.args.flags.now l.i c.container_flag.result
          (flag_at x.list.now x.pool.now x.table.now x.guarantees.now x.cells.now x.grid.now x.answers.now l.i _ _ c.container_flag.result refl refl (rw (i.0, i.1, i.2) at c.container_flag.ensures))),
    )
