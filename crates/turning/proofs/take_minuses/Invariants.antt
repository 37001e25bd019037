-- The flips not yet taken are left of what was asked. Assumes nothing.
use Rattle.std.proofs.Common.{◌-◌}
use Rattle.table.specs.Comparisons.{minuses}
use Rattle.turning.proofs.Laws.{Rest}
use Rattle.turning.proofs.take_minuses.Given as goal

abbrev pub invariant-loop : goal.invariant-loop
invariant-loop l = Rest (l.flips - l.counter) (minuses l.flips l.fn.a.operator) l.fn.a.literal l.turned
