-- No word, or a fault. Assumes nothing.
use Rattle.std.proofs.Common.{sym, ◌∙◌, ap}
use Rattle.limits.specs.Refusals.{number_of}
use Rattle.predicate.specs.Checked.{number_some}
use Rattle.predicate.proofs.CheckingLaws.{node_missing, node_there}
use Rattle.checking.specs.Judging.{judge_fault, judged_err}
use Rattle.checking.proofs.judge.Goals as goal

pub returns-in_err-w : goal.returns-in_err-w
returns-in_err-w c =
    judged_err _ _ c.from_residual.ensures.1 ∙ sym (judge_fault _ _ _ _ _ _ (node_missing _ _ _ _ _ c.in_err-w.ensures.0 ∙ ap number_of (sym c.in_err-w.ensures.1)) (number_some _))

pub returns-in_err-first_fault : goal.returns-in_err-first_fault
returns-in_err-first_fault c =
    judged_err _ _ c.from_residual-in_err-first_fault.ensures.1
    ∙ sym (judge_fault _ _ _ _ _ _ (node_there _ _ _ _ _ c.in_ok-w.ensures.0 _ c.node_at-n.ensures ∙ sym (rw (c.formed.ensures, c.limited.ensures, c.columned.ensures, c.in_ok-w.ensures.1) at c.in_err-first_fault.ensures)) (number_some _))
