-- The grid's length, then its columns. Assumes nothing.
use Rattle.std.proofs.Common.{sym, ◌∙◌}
use borrow.Author.Tests.{ne_eqb}
use Rattle.cells.specs.Grids.{grid_unfit, grid_fits}
use Rattle.cells.proofs.grid_fine.Goals as goal

pub returns-then-grid-containers : goal.returns-then-grid-containers
returns-then-grid-containers c =
    let a = c.args in
    c.columns_fine.ensures ∙ sym (grid_fits a.schema.now a.pool.now a.list.now a.grid.now a.containers c.if-grid-containers.true)

pub returns-else-grid-containers : goal.returns-else-grid-containers
returns-else-grid-containers c =
    let a = c.args in
    ne_eqb _ _ c.if-grid-containers.false ∙ sym (grid_unfit a.schema.now a.pool.now a.list.now a.grid.now a.containers c.if-grid-containers.false)
