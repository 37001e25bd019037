-- One word. Assumes nothing.
use Rattle.std.proofs.Common.{refl}
use Rattle.table.specs.Encoding.{pool_of, table_words}
use Rattle.table.specs.Comparisons.{has_values}
use Rattle.writing.proofs.Laws.{leaf_by}
use Rattle.writing.proofs.Writer.column_has_non_nulls_expr.Goals as goal

pub returns : goal.returns
unfolding table_words pool_of
returns c =
    leaf_by (has_values c.args.c) _ _ _ refl refl refl (rw (c.place_of-blanks.ensures, c.place_of-rows.ensures, c.of.ensures) at c.put_node.ensures)
