-- LIKE's form over a least and a greatest text; proofs/Likes.antt has what it says of the texts between them. Assumes nothing.
use Rattle.std.specs.Prelude.{Bool, ◌&&◌, List, ℕ}
use Rattle.operators.specs.declared.Operator.TheVariants.{AtMost}
use Rattle.orders.specs.Order.{compares}
use Rattle.orders.specs.Instances.{texts}

-- least ≤ upper AND prefix ≤ greatest
abbrev pub like_form : List ℕ → List ℕ → List ℕ → List ℕ → Bool
like_form lo hi prefix upper = compares texts AtMost lo upper && compares texts AtMost prefix hi
