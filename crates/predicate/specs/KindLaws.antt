-- Nodes and shapes by the kinds of their words; past the known kinds and constants. Assumes nothing.
use Rattle.std.specs.Prelude.{◌≡◌, refl, true, false, List, [], ◌∷◌, ℕ, zero, suc, ◌≤◌, get_or, eqb, Option, Some, None}
use Rattle.std.proofs.Common.{arith}
use Rattle.std.proofs.Math.ListN.{get_or-map, get_or-eq_default}
use Rattle.operators.specs.Operators.{operator_of}
use Rattle.kleene.specs.declared.Truth.TheVariants.{Unknown}
use Rattle.kleene.specs.declared.Joining.TheVariants.{And, Or}
use Rattle.literals.specs.Literals.{literal_of}
use Rattle.predicate.specs.Nodes.{kind_of, kinds, kind_named, operator_field, column_of, flips_of, first_field, count_of, constant_of, or_equal, negated_of, node_of}
use Rattle.predicate.specs.Checking.{bare, columnar, shape_of}
use Rattle.predicate.specs.declared.Kind.{Kind}
use Rattle.predicate.specs.declared.Kind.TheVariants as Kinds
use Rattle.predicate.specs.declared.Node.{Node}
use Rattle.predicate.specs.declared.Node.TheVariants.{Constant, Join, Not, TruthColumn, IsNull, IsNotNull, Comparison, List as InList, Like}
use Rattle.predicate.specs.declared.Shape.{Shape}

-- the node of a word w of a kind, and the word l behind it
abbrev pub node_by : List ℕ → ℕ → ℕ → Option Kind → Node
node_by pool w l (Some Kinds.Constant) = Constant (constant_of (operator_field w))
node_by pool w l (Some Kinds.And) = Join And
node_by pool w l (Some Kinds.Or) = Join Or
node_by pool w l (Some Kinds.Not) = Not
node_by pool w l (Some Kinds.TruthColumn) = TruthColumn (column_of w)
node_by pool w l (Some Kinds.IsNull) = IsNull (column_of w)
node_by pool w l (Some Kinds.IsNotNull) = IsNotNull (column_of w)
node_by pool w l (Some Kinds.Comparison) =
    Comparison (or_equal (operator_of (operator_field w))) (column_of w) (flips_of w) (eqb (first_field w) 1) (literal_of pool l)
node_by pool w l (Some Kinds.List) = InList (negated_of w) (column_of w) (flips_of w) (count_of w)
node_by pool w l (Some Kinds.Like) = Like (negated_of w) (column_of w) (literal_of pool l)
node_by pool w l None = Constant Unknown

pub node_kinds : (pool : List ℕ) (w l : ℕ) → node_of pool w l ≡ node_by pool w l (kind_named (kind_of w))
unfolding node_of
node_kinds pool w l = get_or-map (node_by pool w l) kinds (kind_of w) None

-- what a kind has
abbrev pub shape_by : Option Kind → Shape
shape_by (Some Kinds.Constant) = bare 3
shape_by (Some Kinds.And) = bare 1
shape_by (Some Kinds.Or) = bare 1
shape_by (Some Kinds.Not) = bare 1
shape_by (Some Kinds.TruthColumn) = columnar 1
shape_by (Some Kinds.IsNull) = columnar 1
shape_by (Some Kinds.IsNotNull) = columnar 1
shape_by (Some Kinds.Comparison) = record { operators = 8; column = true; flips = true; first = true; count = false }
shape_by (Some Kinds.List) = record { operators = 2; column = true; flips = true; first = false; count = true }
shape_by (Some Kinds.Like) = columnar 2
shape_by None = bare 0

pub shape_kinds : (k : ℕ) → shape_of k ≡ shape_by (kind_named k)
shape_kinds k = get_or-map shape_by kinds k None

-- ---- past the known ones

past_ten : {A : Type 0} (a b c d e f g h i j z : A) (k : ℕ) → 10 ≤ k → get_or (a ∷ b ∷ c ∷ d ∷ e ∷ f ∷ g ∷ h ∷ i ∷ j ∷ []) k z ≡ z
past_ten a b c d e f g h i j z k p = get_or-eq_default (a ∷ b ∷ c ∷ d ∷ e ∷ f ∷ g ∷ h ∷ i ∷ j ∷ []) z p

pub node_unknown : (pool : List ℕ) (w l : ℕ) → 10 ≤ kind_of w → node_of pool w l ≡ Constant Unknown
unfolding node_of
node_unknown pool w l h = past_ten _ _ _ _ _ _ _ _ _ _ (Constant Unknown) (kind_of w) h

pub shape_unknown : (k : ℕ) → 10 ≤ k → shape_of k ≡ bare 0
shape_unknown k h = past_ten _ _ _ _ _ _ _ _ _ _ (bare 0) k h

-- null, and the codes past it
pub constant_null : (n : ℕ) → 2 ≤ n → constant_of n ≡ Unknown
constant_null zero h = absurd (omega arith)
constant_null (suc zero) h = absurd (omega arith)
constant_null (suc (suc zero)) h = refl
constant_null (suc (suc (suc n))) h = refl
