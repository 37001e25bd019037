-- A judged word leads to a refusal or to what stands behind it; each child is checked with a depth less. Assumes nothing.
use Rattle.std.proofs.Common.{◌∙◌, rules, sym}
use Rattle.words.specs.WordLaws.{length_words}
use Rattle.predicate.specs.Checked.{outcome_err}
use Rattle.predicate.specs.CheckingLaws.{then_refused}
use Rattle.checking.specs.Judging.{check_faulty, check_fine, fine_says}
use Rattle.checking.proofs.+check.Goals as goal

pub returns-in_err-n : goal.returns-in_err-n
returns-in_err-n t c = outcome_err _ _ c.from_residual.ensures.1 ∙ sym (check_faulty _ _ _ _ _ _ (sym c.in_err-n.ensures))

pub after_node-t-requires : goal.after_node-t-requires
after_node-t-requires t c =
    let h = fine_says _ _ _ _ _ _ (sym c.in_ok-n.ensures) in
    let p = rw length_words at h.there in
    search rules

pub overflow_sub-left : goal.overflow_sub-left
overflow_sub-left t c = let h = fine_says _ _ _ _ _ _ (sym c.in_ok-n.ensures) in search rules

pub check-requires : goal.check-requires
check-requires t c = let h = fine_says _ _ _ _ _ _ (sym c.in_ok-n.ensures) in search rules

pub check-requires-in-Join : goal.check-requires-in-Join
check-requires-in-Join t c = let h = fine_says _ _ _ _ _ _ (sym c.in_ok-n.ensures) in search rules

pub check-requires-in-Join-2 : goal.check-requires-in-Join-2
check-requires-in-Join-2 t c = let h = fine_says _ _ _ _ _ _ (sym c.in_ok-n.ensures) in search rules

pub returns-in_err-u-in-Join : goal.returns-in_err-u-in-Join
returns-in_err-u-in-Join t c =
    outcome_err _ _ c.from_residual-in_err-u-in-Join.ensures.1
    ∙ sym (rw (check_fine _ _ _ _ _ _ (sym c.in_ok-n.ensures), c.in-Join.is) (then_refused _ _ _ (rw (c.after_node-t.ensures, c.word_or_zero.ensures) at (sym c.in_err-u-in-Join.ensures))))

pub returns-in-Constant : goal.returns-in-Constant
returns-in-Constant t c = rw (check_fine _ _ _ _ _ _ (sym c.in_ok-n.ensures)) (search rules)

pub returns-in-Comparison : goal.returns-in-Comparison
returns-in-Comparison t c = rw (check_fine _ _ _ _ _ _ (sym c.in_ok-n.ensures)) (search rules)

pub returns-in-List : goal.returns-in-List
returns-in-List t c = rw (check_fine _ _ _ _ _ _ (sym c.in_ok-n.ensures)) (search rules)

pub returns-in-Like : goal.returns-in-Like
returns-in-Like t c = rw (check_fine _ _ _ _ _ _ (sym c.in_ok-n.ensures)) (search rules)

pub returns-in-Not : goal.returns-in-Not
returns-in-Not t c = rw (check_fine _ _ _ _ _ _ (sym c.in_ok-n.ensures)) (search rules)

pub returns-in_ok-u-in-Join : goal.returns-in_ok-u-in-Join
returns-in_ok-u-in-Join t c = rw (check_fine _ _ _ _ _ _ (sym c.in_ok-n.ensures)) (search rules)
