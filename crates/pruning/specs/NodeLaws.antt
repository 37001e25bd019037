-- A table's word by its kind, and past the end. Assumes nothing.
use Rattle.std.specs.Prelude.{◌≡◌, refl, Bool, true, false, ◌&&◌, Option, None, Some, List, [], ◌∷◌, ℕ, ◌+◌, ◌/◌, ◌≤◌, length, get_or, eqb, ltb}
use Rattle.std.proofs.Common.{ap, ◌∙◌, arith, le-ltb}
use Rattle.std.proofs.Math.ListN.{get_or-eq_default, get_or-map}
use Rattle.words.specs.WordLaws.{words_past}
use Rattle.words.specs.Word.{words_of}
use Rattle.operators.specs.Operators.{operator_of}
use Rattle.kleene.specs.declared.Joining.TheVariants.{And as JoinAnd, Or as JoinOr}
use Rattle.literals.specs.Literals.{literal_of}
use Rattle.predicate.specs.Nodes.{or_equal}
use Rattle.predicate.specs.Checking.{unused_zero}
use Rattle.table.specs.Encoding.{kinds, kind_named, number_of_kind}
use Rattle.table.specs.declared.Kind.{Kind}
use Rattle.pruning.specs.TableReading.{kind_of, operator_field, first_field, second_field, literal_first_field, zero_field, first_of, second_of, table_node_of, table_node_at}
use Rattle.pruning.specs.TableChecking.{naming, table_shape_of, table_formed}
use Rattle.pruning.specs.declared.TableNode.{TableNode}
use Rattle.pruning.specs.declared.TableNode.TheVariants.{Always, Join, Against, Positive, Differ, Holds, Negation}
use Rattle.pruning.specs.declared.TableShape.{TableShape}

-- the node of a kind's words w and l; an unknown kind reads as true
module _ (pool : List ℕ) (w l : ℕ) where
  abbrev pub node_by : Option Kind → TableNode
  node_by (Some Kind.Always) = Always (eqb (operator_field w) 1)
  node_by (Some Kind.And) = Join JoinAnd
  node_by (Some Kind.Or) = Join JoinOr
  node_by (Some Kind.Against) = Against (or_equal (operator_of (operator_field w))) (first_of w) (eqb (literal_first_field w) 1) (literal_of pool l)
  node_by (Some Kind.Positive) = Positive (first_of w)
  node_by (Some Kind.Differ) = Differ (first_of w) (second_of w)
  node_by (Some Kind.Holds) = Holds (first_of w)
  node_by (Some Kind.Negation) = Negation
  node_by None = Always true

  pub node_kinds : table_node_of pool w l ≡ node_by (kind_named (kind_of w))
  unfolding table_node_of
  node_kinds = get_or-map node_by kinds (kind_of w) None

-- kinds from 8 on are unknown
pub node_other : (pool : List ℕ) (w l : ℕ) → 8 ≤ kind_of w → table_node_of pool w l ≡ Always true
unfolding table_node_of
node_other pool w l h =
    get_or-eq_default
    (Always (eqb (operator_field w) 1)
    ∷ Join JoinAnd
    ∷ Join JoinOr
    ∷ Against (or_equal (operator_of (operator_field w))) (first_of w) (eqb (literal_first_field w) 1) (literal_of pool l)
    ∷ Positive (first_of w)
    ∷ Differ (first_of w) (second_of w)
    ∷ Holds (first_of w)
    ∷ Negation
    ∷ [])
    (Always true) h

shape_other : (k : ℕ) → 8 ≤ k → table_shape_of k ≡ naming 0 false false false
shape_other k h =
    get_or-eq_default
    (naming 2 false false false
    ∷ naming 1 false false false
    ∷ naming 1 false false false
    ∷ naming 6 true false true
    ∷ naming 1 true false false
    ∷ naming 1 true true false
    ∷ naming 1 true false false
    ∷ naming 1 false false false
    ∷ [])
    (naming 0 false false false) h

-- what a kind has; an unknown kind has no operator
abbrev pub shape_by : Option Kind → TableShape
shape_by (Some k) = table_shape_of (number_of_kind k)
shape_by None = naming 0 false false false

-- a word formed as a shape says
abbrev pub formed_so : ℕ → TableShape → Bool
formed_so w s =
    ltb (operator_field w) s.operators
    && (unused_zero s.first (first_field w)
    && (unused_zero s.second (second_field w)
    && (unused_zero s.literal_first (literal_first_field w) && eqb (zero_field w) 0)))

pub formed_kinds : (w : ℕ) → table_formed w ≡ formed_so w (shape_by (kind_named (kind_of w)))
unfolding table_formed
formed_kinds w = ap (formed_so w) (get_or-map shape_by kinds (kind_of w) None)

pub formed_other : (w : ℕ) → 8 ≤ kind_of w → table_formed w ≡ false
unfolding table_formed
formed_other w h = ap (formed_so w) (shape_other (kind_of w) h) ∙ rw (le-ltb (operator_field w) 0 (omega arith))

-- past the end
node_none : (pool : List ℕ) (l : ℕ) → table_node_of pool 0 l ≡ Always false
unfolding table_node_of
node_none pool l = refl

pub node_past : (pool bs : List ℕ) (at : ℕ) → length bs / 8 ≤ at → table_node_at pool (words_of bs) at ≡ Always false
node_past pool bs at h =
    let l : ℕ = get_or (words_of bs) (at + 1) 0 in
    ap (λ (w : ℕ). table_node_of pool w l) (words_past bs at h) ∙ node_none pool l
