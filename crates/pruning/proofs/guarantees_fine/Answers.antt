-- All places. Assumes nothing.
use Prim.Native.Nat.{ℕ, ◌/◌}
use Rattle.std.specs.Prelude.{List, length, get_or}
use Rattle.std.proofs.Common.{refl, ◌∙◌, rules, arith}
use borrow.Author.Tests.{tests}
use Rattle.std.proofs.lemmas.Iterator.{YieldsList-from_range}
use Rattle.std.proofs.lemmas.Iterator.Search.{all_from_yields_List}
use Rattle.words.specs.Word.{words_of}
use Rattle.words.specs.WordLaws.{length_words}
use Rattle.pruning.specs.CheckingLaws.{guarantee_fine, guarantees_walked}
use Rattle.pruning.proofs.guarantees_fine.Goals as goal

pub returns : goal.returns
returns c =
    let a = c.args in
    let ws : List ℕ = words_of a.list.now in
    let n : ℕ = length a.list.now / 8 in
    all_from_yields_List (λ (i : ℕ). guarantee_fine a.schema.now (get_or ws i 0)) _ _ c.all.result c.all.ensures.ran (YieldsList-from_range 0 n n refl (omega arith)) (λ x b q k. search (rules, tests))
    ∙ guarantees_walked ws a.schema.now n 0 (omega (arith, length_words a.list.now))
