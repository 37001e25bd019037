-- One word. Assumes nothing.
use Rattle.std.proofs.Common.{refl}
use Rattle.table.specs.Encoding.{pool_of, table_words}
use Rattle.table.specs.Tables.{always}
use Rattle.writing.proofs.Laws.{bit_from, leaf_by}
use Rattle.writing.proofs.Writer.write_always.Goals as goal

pub returns : goal.returns
unfolding table_words pool_of
returns c =
    leaf_by (always c.args.b) _ _ _ refl refl refl (rw (c.from.ensures, bit_from, c.of.ensures) at c.put_node.ensures)
