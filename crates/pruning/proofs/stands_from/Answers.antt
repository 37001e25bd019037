-- Any place from there on. Assumes nothing.
use Prim.Native.Nat.{ℕ, ◌-◌, ◌/◌}
use Rattle.std.specs.Prelude.{List, length, get_or, eqb}
use Rattle.std.proofs.Common.{refl, ◌∙◌, rules}
use borrow.Author.Tests.{tests}
use Rattle.std.proofs.lemmas.Iterator.{YieldsList-from_range}
use Rattle.std.proofs.lemmas.Iterator.Search.{any_from_yields_List}
use Rattle.words.specs.Word.{words_of}
use Rattle.words.specs.WordLaws.{length_words}
use Rattle.pruning.specs.CheckingLaws.{stands_walked}
use Rattle.pruning.proofs.stands_from.Goals as goal

pub returns : goal.returns
returns c =
    let a = c.args in
    let ws : List ℕ = words_of a.list.now in
    let n : ℕ = length a.list.now / 8 - a.from in
    any_from_yields_List (λ (i : ℕ). eqb (get_or ws i 0) a.w) _ _ c.any.result c.any.ensures.ran (YieldsList-from_range a.from (length a.list.now / 8) n refl refl) (λ x b q k. search (rules, tests))
    ∙ stands_walked ws a.w n a.from (rw length_words)
