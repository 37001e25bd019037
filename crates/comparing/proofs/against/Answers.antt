-- A literal on the left swaps the operator. Assumes nothing.
use Rattle.literals.specs.Literals.{value_of}
use Rattle.comparing.specs.Comparing.{asks_order, asks_first}
use Rattle.comparing.proofs.against.Goals.{then-first, else-first}
use Rattle.comparing.proofs.against.Goals as goal

pub returns : goal.returns
returns c =
    let a = c.args in
    let v = value_of a.cells.now a.cell in
    let k = value_of a.literals.now a.literal in
    elim c.if-first.branch [
      | then-first w ↦
          rw (w.if-first.true, asks_first a.o v k c.requires, ← c.compare_values-c.ensures, ← w.swap.ensures, ← w.by_order-is) c.by_order.ensures
      | else-first w ↦
          rw (w.if-first.false, asks_order a.o v k c.requires, ← c.compare_values-c.ensures) (rw w.by_order-is at c.by_order.ensures)
    ]
