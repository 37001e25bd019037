-- The closure tells a literal that is not null, and any_value is whether one of them is. Assumes nothing.
use Rattle.std.proofs.Common.{◌+◌, refl, ◌∙◌, rules, tests, arith, add-zero}
use Rattle.std.proofs.lemmas.Iterator.{YieldsList-from_range}
use Rattle.std.proofs.lemmas.Iterator.Search.{any_from_yields_List}
use Rattle.words.specs.Word.{words_of}
use Rattle.promising.proofs.Laws.{is_some_at, any_of_list}
use Rattle.promising.proofs.any_value.Goals as goal

pub returns : goal.returns
returns c =
    let at = c.args.at + 1 in
    let ws = words_of c.args.words.now in
    any_from_yields_List (is_some_at ws at) _ _ _ c.any.ensures.ran (YieldsList-from_range 0 c.from.result c.args.count refl (omega arith)) (λ x b q k. search (rules, tests))
    ∙ rw (any_of_list ws at c.args.count 0, add-zero)
