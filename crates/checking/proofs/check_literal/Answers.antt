-- No word, or a fault. Assumes nothing.
use Rattle.std.proofs.Common.{sym, ◌∙◌}
use Rattle.predicate.specs.Checked.{number_some, outcome_err}
use Rattle.predicate.proofs.CheckingLaws.{literal_missing, literal_fault_lem}
use Rattle.checking.proofs.check_literal.Goals as goal

pub returns-in_err-w : goal.returns-in_err-w
returns-in_err-w c =
    outcome_err _ _ c.from_residual.ensures.1 ∙ rw c.in_err-w.ensures.1 (sym (literal_missing c.args.r.now.schema.now c.args.r.now.pool.now _ _ _ _ c.in_err-w.ensures.0))

pub returns-in_err-literal_fault : goal.returns-in_err-literal_fault
returns-in_err-literal_fault c =
    outcome_err _ _ c.from_residual-in_err-literal_fault.ensures.1
    ∙ sym (literal_fault_lem c.args.r.now.schema.now c.args.r.now.pool.now _ _ _ _ _ c.in_ok-w.ensures.0 (sym (rw (c.type_in.ensures, c.in_ok-w.ensures.1) at c.in_err-literal_fault.ensures)) (number_some _))
