-- All guarantees, with their answers. Assumes nothing.
use Prim.Native.Nat.{ℕ, ◌+◌, ◌/◌}
use Rattle.std.specs.Prelude.{List, length}
use Rattle.std.proofs.Common.{refl, sym, ◌∙◌, rules, arith, add-zero}
use borrow.Author.Tests.{tests}
use Rattle.std.proofs.lemmas.Iterator.{YieldsList-from_range}
use Rattle.std.proofs.lemmas.Iterator.Search.{any_from_yields_List}
use Rattle.words.specs.Word.{words_of}
use Rattle.words.specs.WordLaws.{length_words}
use Rattle.flagging.specs.Flags.{drops_at, drops_walked}
use Rattle.flagging.proofs.answers_drop.Goals as goal

pub returns : goal.returns
returns c =
    let a = c.args in
    let n : ℕ = length a.guarantees.now / 8 in
    rw (add-zero a.at) at
    (any_from_yields_List (drops_at a.answers.now a.guarantees.now a.at) _ _ c.any.result c.any.ensures.ran (YieldsList-from_range 0 n n refl (omega arith)) (λ x b q k. search (rules, tests))
    ∙ drops_walked a.answers.now a.guarantees.now a.at n 0 (omega (arith, length_words a.guarantees.now)))
