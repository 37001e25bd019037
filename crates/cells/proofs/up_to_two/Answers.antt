-- All answers. Assumes nothing.
use Prim.Native.Nat.{ℕ}
use Rattle.std.specs.Prelude.{leb}
use Rattle.std.proofs.Common.{◌∙◌, rules}
use borrow.Author.Tests.{tests}
use Rattle.std.proofs.lemmas.Iterator.{YieldsList-from_slice}
use Rattle.std.proofs.lemmas.Iterator.Search.{all_from_yields_List}
use Rattle.cells.specs.Grids.{two_all}
use Rattle.cells.proofs.up_to_two.Goals as goal

pub returns : goal.returns
returns c =
    let a = c.args in
    all_from_yields_List (λ (x : ℕ). leb x 2) _ _ c.all.result c.all.ensures.ran (YieldsList-from_slice a.answers.now cc) (λ x b q k. search (rules, tests))
    ∙ two_all a.answers.now
