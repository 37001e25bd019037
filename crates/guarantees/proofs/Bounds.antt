-- The guarantees of a predicate that checking accepts: how many there are, and that each fits its word. Assumes nothing.
use Rattle.std.specs.Prelude.{List, ℕ, ◌≤◌, length}
use Rattle.std.proofs.Common.{arith}
use Rattle.limits.specs.Limits.{max_columns, max_guarantees}
use Rattle.predicate.specs.Predicates.{Predicate}
use Rattle.predicate.specs.Accepted.{width_most, Whole}
use Rattle.guarantees.specs.Guarantees.{guarantees}
use Rattle.guarantees.specs.GuaranteeLaws.{AllSmall}
use Rattle.guarantees.specs.Bounds.{Placed, guarantees_bound, guarantees_placed, placed_small}

-- ---- of a predicate that checking accepts

module _ (schema ws : List ℕ) (p : Predicate) (w : Whole schema ws p) where
  pub guarantees_most : length (guarantees 0 p) ≤ max_guarantees
  guarantees_most = omega (arith, guarantees_bound 0 p, w.leaves, w.nodes)

  pub guarantees_columns : Placed (length schema) (length ws) (guarantees 0 p)
  guarantees_columns = guarantees_placed (length schema) (length ws) 0 p w.columns (omega (arith, w.width))

  pub guarantees_small : length schema ≤ max_columns → AllSmall (guarantees 0 p)
  guarantees_small h =
      placed_small (length schema) (length ws) (guarantees 0 p) (omega arith) (omega (arith, width_most p, w.width, w.nodes, w.listed)) guarantees_columns
