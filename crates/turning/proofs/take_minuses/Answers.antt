-- A flip more, one that has no answer, and none left. Assumes nothing.
use native.Mathlib.Omega.{arith}
use Rattle.table.specs.Comparisons.{minuses}
use Rattle.turning.proofs.Laws.{rest_next, rest_stays, rest_none}
use Rattle.turning.proofs.take_minuses.Goals as goal

pub returns-in_err-turned : goal.returns-in_err-turned
returns-in_err-turned c =
    rw c.from_residual.ensures
    (rest_stays c.args.flips c.loop.counter (minuses c.args.flips c.args.a.operator) c.args.a.literal c.loop.turned c.loop.invariant (omega arith) (rw c.in_err-turned.was at c.take_minus.ensures))

pub loop-preserved : goal.loop-preserved
loop-preserved c =
    rest_next c.args.flips c.loop.counter (minuses c.args.flips c.args.a.operator) c.args.a.literal c.loop.turned c.loop.invariant _ (omega arith) (rw c.in_ok-turned.was at c.take_minus.ensures)

pub returns : goal.returns
returns c =
    rest_none c.args.flips c.loop.counter (minuses c.args.flips c.args.a.operator) c.args.a.literal c.loop.turned c.loop.invariant (omega arith)
