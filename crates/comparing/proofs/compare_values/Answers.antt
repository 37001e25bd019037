-- Values of one type by its order, others not at all. Assumes nothing.
use mathlib.Core.Path.{ap, ◌∙◌}
use mathlib.Core.Option.{some}
use borrow.Author.Rules.{rules, sfits_of}
use mir.Syntax.{w64}
use mir.ValLaws.{to_z-of_z}
use Rattle.comparing.specs.Comparing.{int_order_lem, text_order, truth_order}
use Rattle.comparing.proofs.compare_values.Goals as goal

pub returns-in-Int-Int : goal.returns-in-Int-Int
returns-in-Int-Int c =
    rw (c.in-Int-Int.is-0, c.in-Int-Int.is-1)
    (ap some (c.compare_ints.ensures
    ∙ rw (to_z-of_z w64 c.in-Int-Int.a (sfits_of (search rules)), to_z-of_z w64 c.in-Int-Int.b (sfits_of (search rules))) (int_order_lem _ _)))

pub returns-in-Text-Text : goal.returns-in-Text-Text
returns-in-Text-Text c =
    rw (c.in-Text-Text.is-0, c.in-Text-Text.is-1) (ap some (c.compare_texts.ensures ∙ text_order _ _))

pub returns-in-Truth-Truth : goal.returns-in-Truth-Truth
returns-in-Truth-Truth c =
    rw (c.in-Truth-Truth.is-0, c.in-Truth-Truth.is-1) (ap some (c.cmp.ensures ∙ truth_order _ _))
