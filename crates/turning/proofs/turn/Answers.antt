-- An operator with a swap; one without is turned_kept's, which the function names. Assumes nothing.
use Rattle.std.proofs.Common.{◌≡◌, cond}
use Rattle.operators.specs.Operators.{swap_of}
use Rattle.table.specs.Comparisons.{ordered, turned}
use Rattle.turning.proofs.Laws.{turns_as, turned_swap}
use Rattle.turning.proofs.turn.Goals.{then-first, else-first}
use Rattle.turning.proofs.turn.Goals as goal

pub returns-after-first : goal.returns-after-first
returns-after-first c =
    let a = c.args in
    let e : c.if-first.operator ≡ cond a.first (swap_of a.o) a.o =
    elim c.if-first.branch [ then-first w ↦ rw (w.if-first.true, w.operator-is) w.swap-operator.ensures | else-first w ↦ rw w.if-first.false w.operator-is ] in
    turns_as (ordered a.kind a.flips a.first a.o) (turned a.kind a.o a.flips a.first) a.l _
    (λ v. turned_swap a.kind a.o a.flips a.first v c.in_default.not-Distinct c.in_default.not-NotDistinct) (rw e at c.take_flips.ensures)
