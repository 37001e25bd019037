-- The operator of a comparison is asked of an order. Assumes nothing.
use Rattle.std.proofs.Common.{sym, ◌∙◌, ◌+◌, get_or, ap, Some}
use Rattle.words.specs.Word.{words_of}
use Rattle.evaluating.specs.Steps.{against_asks}
use Rattle.evaluating.proofs.step_at.Goals as goal

pub against_at-requires : goal.against_at-requires
against_at-requires c =
    let a = c.args in
    let x = a.c.now in
    let ws = words_of x.table.now in (
      c.requires.0,
      rw c.node_word-w.ensures (against_asks x.pool.now (get_or ws a.at 0) (get_or ws (a.at + 1) 0)
          (rw (c.kind_of.ensures, c.node_word-w.ensures) at (sym c.of_number.ensures ∙ c.in-Some-Against.is ∙ ap Some c.in-Some-Against.field-0-is)) c.requires.1),
    )
