-- A word with the key, another, and none left. Assumes nothing.
use Rattle.std.proofs.Common.{arith, sym, ◌∙◌}
use Rattle.listing.proofs.Laws.{place_here, place_on, place_end}
use Rattle.listing.proofs.find.Goals as goal

pub returns-then-word_key-key : goal.returns-then-word_key-key
returns-then-word_key-key c =
    place_here c.args.s c.args.list.now c.loop-i.i c.loop-i.invariant c.loop-i-test.true
    (rw c.word_or_zero.ensures at (sym c.word_key.ensures ∙ c.if-word_key-key.true ∙ c.key_of-key.ensures.0))

pub loop-i-preserved : goal.loop-i-preserved
loop-i-preserved c =
    place_on c.args.s c.args.list.now c.loop-i.i c.loop-i.invariant c.loop-i-test.true
    (λ e. c.if-word_key-key.false (c.word_key.ensures ∙ rw c.word_or_zero.ensures (e ∙ sym c.key_of-key.ensures.0)))

pub returns : goal.returns
returns c = place_end c.args.s c.args.list.now c.loop-i.i c.loop-i.invariant (omega arith) (omega arith)
