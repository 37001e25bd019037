-- A checked table's lists are within their rooms. Assumes nothing.
use native.Mathlib.Omega.{arith}
use mathlib.Core.Path.{sym, ◌∙◌}
use Rattle.evaluating.specs.FromChecks.{checked_rooms}
use Rattle.spill.proofs.prune_fault.Goals as goal

pub grid_fine-requires : goal.grid_fine-requires
grid_fine-requires c =
    let h = checked_rooms _ _ _ _ _ (sym c.checked_table.ensures ∙ c.if-not-checked_table.false) in
    (omega arith, h.0)

pub answers_fine-requires : goal.answers_fine-requires
answers_fine-requires c =
    let h = checked_rooms _ _ _ _ _ (sym c.checked_table.ensures ∙ c.if-not-checked_table.false) in
    (omega arith, omega arith)
