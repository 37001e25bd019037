-- What is left of the literals decides. Assumes nothing.
use Rattle.std.proofs.Common.{◌∙◌, ◌≡◌, ◌-◌, ◌+◌, sym, arith, rules}
use Rattle.predicate.specs.Checked.{outcome_err}
use Rattle.predicate.specs.CheckingLaws.{then_refused, then_passed}
use Rattle.predicate.proofs.CheckingLaws.{literals_none, literals_more}
use Rattle.checking.proofs.check_literals.Goals as goal

pub loop-init : goal.loop-init
loop-init c = search rules

pub returns-in_err-t : goal.returns-in_err-t
returns-in_err-t c =
    outcome_err _ _ c.from_residual.ensures.1
    ∙ sym (c.loop.invariant ∙ literals_more _ _ _ _ _ _ (omega arith) ∙ then_refused _ _ _ (sym c.in_err-t.ensures))

pub loop-preserved : goal.loop-preserved
loop-preserved c =
    let e : c.args.count - c.loop.counter - 1 ≡ c.args.count - (c.loop.counter + 1) = omega arith in
    c.loop.invariant ∙ literals_more _ _ _ _ _ _ (omega arith) ∙ rw e (then_passed _ _ _ (sym c.in_ok-t.ensures))

pub returns : goal.returns
returns c = sym (c.loop.invariant ∙ literals_none _ _ _ _ _ _ (omega arith))
