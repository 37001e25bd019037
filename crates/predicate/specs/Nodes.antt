-- A predicate node's word, and the node that it stands for with the literal word behind it. Assumes nothing.
use Rattle.std.specs.Prelude.{Bool, List, [], ◌∷◌, ℕ, get_or, eqb, Option, Some, None}
use Rattle.words.specs.Layout.{field}
use Rattle.operators.specs.Operators.{operator_of}
use Rattle.operators.specs.declared.Operator.{Operator}
use Rattle.operators.specs.declared.Operator.TheVariants.{Equal}
use Rattle.kleene.specs.declared.Truth.{Truth}
use Rattle.kleene.specs.declared.Truth.TheVariants.{False, Unknown, True}
use Rattle.kleene.specs.declared.Joining.TheVariants.{And, Or}
use Rattle.literals.specs.Literals.{literal_of}
use Rattle.predicate.specs.declared.Column.{Column}
use Rattle.predicate.specs.declared.Kind.{Kind}
use Rattle.predicate.specs.declared.Kind.TheVariants as Kinds
use Rattle.predicate.specs.declared.Node.{Node}
use Rattle.predicate.specs.declared.Node.TheVariants.{Constant, Join, Not, TruthColumn, IsNull, IsNotNull, Comparison, List as InList, Like}

-- kind(4) operator(4) column(8) flips(8) literal-first(1) count(15) zero(24)
abbrev pub node_layout : List ℕ
node_layout = 4 ∷ 4 ∷ 8 ∷ 8 ∷ 1 ∷ 15 ∷ 24 ∷ []

abbrev pub kind_of : ℕ → ℕ
kind_of w = field node_layout 0 w

abbrev pub operator_field : ℕ → ℕ
operator_field w = field node_layout 1 w

abbrev pub column_field : ℕ → ℕ
column_field w = field node_layout 2 w

abbrev pub flips_of : ℕ → ℕ
flips_of w = field node_layout 3 w

abbrev pub first_field : ℕ → ℕ
first_field w = field node_layout 4 w

abbrev pub count_of : ℕ → ℕ
count_of w = field node_layout 5 w

abbrev pub zero_field : ℕ → ℕ
zero_field w = field node_layout 6 w

abbrev pub column_of : ℕ → Column
column_of w = record { 0 = column_field w }

-- in the order of their numbers
abbrev pub kinds : List (Option Kind)
kinds =
    Some Kinds.Constant
    ∷ Some Kinds.And
    ∷ Some Kinds.Or
    ∷ Some Kinds.Not
    ∷ Some Kinds.TruthColumn
    ∷ Some Kinds.IsNull
    ∷ Some Kinds.IsNotNull
    ∷ Some Kinds.Comparison
    ∷ Some Kinds.List
    ∷ Some Kinds.Like
    ∷ []

-- the kind of a number, if it is one
abbrev pub kind_named : ℕ → Option Kind
kind_named n = get_or kinds n None

-- constants: 0 false, 1 true, 2 null
abbrev pub constant_of : ℕ → Truth
constant_of n = get_or (False ∷ True ∷ Unknown ∷ []) n Unknown

-- an unknown code reads as =
abbrev pub or_equal : Option Operator → Operator
or_equal (Some o) = o
or_equal None = Equal

-- operators of kinds 8 and 9: 0 IN or LIKE, 1 NOT IN or NOT LIKE
abbrev pub negated_of : ℕ → Bool
negated_of w = eqb (operator_field w) 1

-- the node of a word w and the word l behind it: a total reading, in the order of the kinds; an unknown kind reads as the constant null
unfoldable pub node_of : List ℕ → ℕ → ℕ → Node
node_of pool w l =
    get_or
    (Constant (constant_of (operator_field w))
    ∷ Join And
    ∷ Join Or
    ∷ Not
    ∷ TruthColumn (column_of w)
    ∷ IsNull (column_of w)
    ∷ IsNotNull (column_of w)
    ∷ Comparison (or_equal (operator_of (operator_field w))) (column_of w) (flips_of w) (eqb (first_field w) 1) (literal_of pool l)
    ∷ InList (negated_of w) (column_of w) (flips_of w) (count_of w)
    ∷ Like (negated_of w) (column_of w) (literal_of pool l)
    ∷ [])
    (kind_of w) (Constant Unknown)
