-- One word. Assumes nothing.
use Rattle.std.proofs.Common.{refl}
use Rattle.table.specs.Encoding.{pool_of, table_words}
use Rattle.table.specs.Tables.{holds}
use Rattle.writing.proofs.Laws.{leaf_by}
use Rattle.writing.proofs.Writer.write_holds.Goals as goal

pub returns : goal.returns
unfolding table_words pool_of
returns c =
    leaf_by (holds c.args.x) _ _ _ refl refl refl (rw (c.place_of-first.ensures, c.of.ensures) at c.put_node.ensures)
