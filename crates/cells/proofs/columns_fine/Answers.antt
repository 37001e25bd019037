-- What is left of the columns is fine or not. Assumes nothing.
use Rattle.std.proofs.Common.{sym, ◌∙◌, rules, arith}
use Rattle.cells.specs.Columns.{columns_end, columns_is, columns_all}
use Rattle.cells.proofs.columns_fine.Goals as goal

pub column_fine-requires : goal.column_fine-requires
column_fine-requires c =
    record { first = search rules; narrow = omega (arith, c.requires.0); rows = c.requires.1 }

pub returns-then-not-column_fine : goal.returns-then-not-column_fine
returns-then-not-column_fine c =
    let a = c.args in
    sym (columns_all a.schema.now a.pool.now a.list.now a.grid.now a.containers ∙ c.loop-p.invariant ∙ columns_is a.schema.now a.pool.now a.list.now a.grid.now a.containers c.loop-p.p c.loop-p-test.true c.word_at.result c.word_at.ensures c.statistic_of-s.result c.statistic_of-s.ensures c.cell_type.result c.cell_type.ensures c.column_fine.result c.column_fine.ensures ∙ rw c.if-not-column_fine.true)

pub loop-p-preserved : goal.loop-p-preserved
loop-p-preserved c =
    let a = c.args in
    c.loop-p.invariant ∙ columns_is a.schema.now a.pool.now a.list.now a.grid.now a.containers c.loop-p.p c.loop-p-test.true c.word_at.result c.word_at.ensures c.statistic_of-s.result c.statistic_of-s.ensures c.cell_type.result c.cell_type.ensures c.column_fine.result c.column_fine.ensures ∙ rw c.if-not-column_fine.false

pub returns : goal.returns
returns c =
    let a = c.args in
    sym (columns_all a.schema.now a.pool.now a.list.now a.grid.now a.containers ∙ c.loop-p.invariant ∙ columns_end a.schema.now a.pool.now a.list.now a.grid.now a.containers c.loop-p.p c.loop-p-test.false)
