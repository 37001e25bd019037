-- A word of the table with the word behind it, or past the end. Assumes nothing.
use mathlib.Core.Path.{sym, ◌∙◌}
use Rattle.words.specs.WordLaws.{words_at}
use Rattle.pruning.specs.NodeLaws.{node_past}
use Rattle.pruning.proofs.table_node_at.Goals as goal

pub returns-then-at-table : goal.returns-then-at-table
returns-then-at-table c =
    c.table_node_of.ensures ∙ rw (c.word_or_zero.ensures, c.word_at.ensures, ← words_at _ _ c.if-at-table.true)

pub returns-else-at-table : goal.returns-else-at-table
returns-else-at-table c =
    sym (node_past _ _ _ c.if-at-table.false)
