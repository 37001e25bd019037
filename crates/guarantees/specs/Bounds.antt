-- How many guarantees a predicate gives, and that each names a column and a node word of the predicate. Assumes nothing.
use Rattle.std.specs.Prelude.{Bool, true, false, List, [], ◌∷◌, ◌++◌, ℕ, zero, suc, ◌+◌, ◌^◌, ◌≤◌, ◌<◌, length}
use Rattle.std.proofs.Common.{arith, length-append}
use Rattle.operators.specs.declared.Operator.{Operator}
use Rattle.operators.specs.declared.Operator.TheVariants.{Equal, NotEqual, Below, AtMost, Above, AtLeast, Distinct, NotDistinct}
use Rattle.kleene.specs.declared.Joining.TheVariants.{And, Or}
use Rattle.literals.specs.Literals.{Value}
use Rattle.predicate.specs.declared.Column.{Column}
use Rattle.predicate.specs.Predicates.{Predicate, constant, join, not, column, is_null, is_not_null, comparison, list, like}
use Rattle.predicate.specs.Measures.{width, leaves}
use Rattle.predicate.specs.Accepted.{ColumnsBelow}
use Rattle.guarantees.specs.Guarantees.{Guarantee, non_null, over_set, unflipped, of_comparison, guarantees}
use Rattle.guarantees.specs.GuaranteeLaws.{AllSmall}

-- ---- one induction: a leaf gives none or one, of its own column and place

module _ (P : List Guarantee → Type 0) (at : ℕ) (c : Column) (none : P [])
    (one : (b : Bool) (vs : List Value) → P (record { of = c; not_in = b; place = at; set = vs } ∷ [])) where
  set_by : (b : Bool) (vs : List Value) → P (over_set at c b vs)
  set_by b [] = none
  set_by b (v ∷ vs) = one b (v ∷ vs)

  unflipped_by : (n : ℕ) (b : Bool) (vs : List Value) → P (unflipped n at c b vs)
  unflipped_by zero b vs = set_by b (non_null vs)
  unflipped_by (suc n) b vs = none

  comparison_by : (o : Operator) (n : ℕ) (v : Value) → P (of_comparison o at c n v)
  comparison_by Equal n v = unflipped_by n false (v ∷ [])
  comparison_by NotEqual n v = unflipped_by n true (v ∷ [])
  comparison_by Below n v = none
  comparison_by AtMost n v = none
  comparison_by Above n v = none
  comparison_by AtLeast n v = none
  comparison_by Distinct n v = none
  comparison_by NotDistinct n v = none

pub guarantees_bound : (at : ℕ) (p : Predicate) → length (guarantees at p) ≤ leaves p
unfolding guarantees
guarantees_bound at (constant t) = omega arith
guarantees_bound at (join And l r) =
    let a = guarantees (at + 1) l in
    let b = guarantees (at + 1 + width l) r in
    omega (arith, length-append a b, guarantees_bound (at + 1) l, guarantees_bound (at + 1 + width l) r)
guarantees_bound at (join Or l r) = omega arith
guarantees_bound at (not p) = omega arith
guarantees_bound at (column c) = omega arith
guarantees_bound at (is_null c) = omega arith
guarantees_bound at (is_not_null c) = omega arith
guarantees_bound at (comparison o c n b v) = comparison_by (λ gs. length gs ≤ 1) at c (omega arith) (λ b vs. omega arith) o n v
guarantees_bound at (list b c n vs) = unflipped_by (λ gs. length gs ≤ 1) at c (omega arith) (λ b vs. omega arith) n b vs
guarantees_bound at (like b c v) = omega arith

-- of a column below n, at a place below m
abbrev pub Placed : ℕ → ℕ → List Guarantee → Type 0
Placed n m [] = Unit {0}
Placed n m (g ∷ gs) = ((g.of.0 < n) × (g.place < m)) × Placed n m gs

module _ (n m : ℕ) where
  placed_append : (a b : List Guarantee) → Placed n m a → Placed n m b → Placed n m (a ++ b)
  placed_append [] b x y = y
  placed_append (g ∷ gs) b x y = (x.0, placed_append gs b x.1 y)

  pub guarantees_placed : (at : ℕ) (p : Predicate) → ColumnsBelow n p → at + width p ≤ m → Placed n m (guarantees at p)
  unfolding guarantees
  guarantees_placed at (constant t) h k = tt
  guarantees_placed at (join And l r) h k =
      let i = at + 1 + width l in
      placed_append (guarantees (at + 1) l) (guarantees i r) (guarantees_placed (at + 1) l h.0 (omega arith)) (guarantees_placed i r h.1 (omega arith))
  guarantees_placed at (join Or l r) h k = tt
  guarantees_placed at (not p) h k = tt
  guarantees_placed at (column c) h k = tt
  guarantees_placed at (is_null c) h k = tt
  guarantees_placed at (is_not_null c) h k = tt
  guarantees_placed at (comparison o c f b v) h k = comparison_by (Placed n m) at c tt (λ b vs. ((h, omega arith), tt)) o f v
  guarantees_placed at (list b c f vs) h k = unflipped_by (Placed n m) at c tt (λ b vs. ((h, omega arith), tt)) f b vs
  guarantees_placed at (like b c v) h k = tt

  pub placed_small : (gs : List Guarantee) → n ≤ 256 → m ≤ 2 ^ 16 → Placed n m gs → AllSmall gs
  placed_small [] h k x = tt
  placed_small (g ∷ gs) h k x = (record { column = omega (arith, x.0.0); place = omega (arith, x.0.1) }, placed_small gs h k x.1)
