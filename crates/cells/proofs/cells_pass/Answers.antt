-- The cells from a row on pass or not. Assumes nothing.
use Rattle.std.proofs.Common.{true, false, sym, ◌∙◌}
use Rattle.cells.specs.Columns.{cells_start, cells_end, cells_is, cell_inside}
use Rattle.cells.proofs.cells_pass.Goals as goal

pub loop-row-init : goal.loop-row-init
loop-row-init g c = λ test h. cells_start test c.args.grid.now c.args.wide c.args.containers c.args.at

pub returns-then-not-fine : goal.returns-then-not-fine
returns-then-not-fine g c =
    λ test h.
    let a = c.args in
    let k = cell_inside c.loop-row.row a.containers a.at a.wide _ c.loop-row-test.true c.requires.room.first c.requires.room.rows in
    sym (c.loop-row.invariant test h ∙ cells_is test a.grid.now a.wide a.containers a.at c.loop-row.row c.loop-row-test.true k c.word_at.result c.word_at.ensures false (sym c.if-not-fine.true ∙ h c.word_at.result c.fine.result c.word_at.type_inv c.fine.ensures))

pub loop-row-preserved : goal.loop-row-preserved
loop-row-preserved g c =
    λ test h.
    let a = c.args in
    let k = cell_inside c.loop-row.row a.containers a.at a.wide _ c.loop-row-test.true c.requires.room.first c.requires.room.rows in
    c.loop-row.invariant test h ∙ cells_is test a.grid.now a.wide a.containers a.at c.loop-row.row c.loop-row-test.true k c.word_at.result c.word_at.ensures true (sym c.if-not-fine.false ∙ h c.word_at.result c.fine.result c.word_at.type_inv c.fine.ensures)

pub returns : goal.returns
returns g c = λ test h. sym (c.loop-row.invariant test h ∙ cells_end test c.args.grid.now c.args.wide c.args.containers c.args.at c.loop-row.row c.loop-row-test.false)
