-- A refusal, no word left over, or some. Assumes nothing.
use Rattle.std.proofs.Common.{sym, ◌∙◌}
use Rattle.words.specs.WordLaws.{length_words}
use Rattle.predicate.proofs.CheckingLaws.{fault_refused, fault_passed, fault_left}
use Rattle.checking.proofs.Laws.{fault_err, start_is}
use Rattle.checking.proofs.check_predicate.Goals as goal

pub returns-in_err-t : goal.returns-in_err-t
returns-in_err-t c =
    fault_err _ _ c.from_residual.ensures.1 ∙ sym (fault_refused _ _ _ _ (sym (rw (start_is c.default.result c.default.ensures) at c.in_err-t.ensures)))

pub returns-then-t-r : goal.returns-then-t-r
returns-then-t-r c =
    sym (fault_left _ _ _ _ (sym (rw (start_is c.default.result c.default.ensures) at c.in_ok-t.ensures)) (λ e. c.if-t-r.true (e ∙ length_words _)))

pub returns : goal.returns
returns c =
    sym (fault_passed _ _ _ _ (sym (rw (start_is c.default.result c.default.ensures) at c.in_ok-t.ensures)) (c.if-t-r.false ∙ sym (length_words _)))
