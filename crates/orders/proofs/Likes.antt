-- LIKE's form over a least and a greatest text is true where a text between them matches the pattern. Assumes nothing.
use Rattle.std.specs.Prelude.{◌≡◌, true, false, List, ℕ}
use Rattle.std.proofs.Common.{sym, ◌∙◌, true≢false}
use Rattle.std.proofs.Math.Option.{some}
use Rattle.words.specs.Bytes.{up_to, up_to_trans}
use Rattle.operators.specs.declared.Operator.TheVariants.{AtMost}
use Rattle.text.specs.Utf8.{Utf8}
use Rattle.text.specs.Pattern.{prefix_of}
use Rattle.text.specs.Match.{like_text}
use Rattle.text.specs.Upper.{upper_of}
use Rattle.text.proofs.Upper.{upper_bounds}
use Rattle.orders.specs.Order.{compares_test}
use Rattle.orders.specs.Forms.{both}
use Rattle.orders.specs.Instances.{texts}
use Rattle.orders.specs.Likes.{like_form}

module _ (p s lo hi u : List ℕ) (up : Utf8 p) (us : Utf8 s) (low : up_to lo s ≡ true) (high : up_to s hi ≡ true) (e : upper_of p ≡ some u) where
  pub like_form_true : like_text p s ≡ true → like_form lo hi (prefix_of false p) u ≡ true
  like_form_true m =
      let b = upper_bounds p u up s us m e in
      both _ _ (compares_test texts AtMost lo u ∙ up_to_trans lo s u low b.1)
      (compares_test texts AtMost (prefix_of false p) hi ∙ up_to_trans (prefix_of false p) s hi b.0 high)

  -- so where it is false, no text between them matches
  pub like_form_false : like_form lo hi (prefix_of false p) u ≡ false → like_text p s ≡ true → ⊥
  like_form_false f m = true≢false (sym (like_form_true m) ∙ f)
