-- The two words at the place, both 0 past the end. Assumes nothing.
use Rattle.std.proofs.Common.{◌+◌, arith}
use Rattle.words.specs.WordLaws.{words_past}
use Rattle.predicate.proofs.node_at.Goals as goal

pub returns-then-at-words : goal.returns-then-at-words
returns-then-at-words c =
    rw (c.node_of.ensures, c.word_or_zero-w.ensures, c.word_or_zero.ensures)

pub returns-else-at-words : goal.returns-else-at-words
returns-else-at-words c =
    rw (words_past c.args.words.now c.args.at c.if-at-words.false, words_past c.args.words.now (c.args.at + 1) (omega arith)) c.node_of-else-at-words.ensures
