-- Guarantees, from the root and down AND nodes only, in prefix order. Assumes nothing.
use Rattle.std.specs.Prelude.{Bool, true, false, List, [], ◌∷◌, ◌++◌, ℕ, zero, suc, ◌+◌, eqb}
use Rattle.words.specs.Layout.{field, packed}
use Rattle.operators.specs.declared.Operator.{Operator}
use Rattle.operators.specs.declared.Operator.TheVariants.{Equal, NotEqual, Below, AtMost, Above, AtLeast, Distinct, NotDistinct}
use Rattle.kleene.specs.declared.Joining.{Joining}
use Rattle.kleene.specs.declared.Joining.TheVariants.{And, Or}
use Rattle.literals.specs.Literals.{Value, bit_of}
use Rattle.orders.specs.Values.{is_null}
use Rattle.predicate.specs.declared.Column.{Column}
use Rattle.predicate.specs.Predicates.{Predicate, constant, join, not, column, is_null as is_null_node, is_not_null, comparison, list, like}
use Rattle.predicate.specs.Measures.{width}

-- In, or NotIn, the set; with its node word's place
pub record Guarantee : Type 0 where
  pub of : Column
  pub not_in : Bool
  pub place : ℕ
  pub set : List Value

abbrev pub unless_null : Bool → Value → List Value → List Value
unless_null true v vs = vs
unless_null false v vs = v ∷ vs

abbrev pub non_null : List Value → List Value
non_null [] = []
non_null (v ∷ vs) = unless_null (is_null v) v (non_null vs)

-- an empty set gives none
abbrev pub over_set : ℕ → Column → Bool → List Value → List Guarantee
over_set at c b [] = []
over_set at c b (v ∷ vs) = record { of = c; not_in = b; place = at; set = v ∷ vs } ∷ []

-- only an unflipped node gives one
abbrev pub unflipped : ℕ → ℕ → Column → Bool → List Value → List Guarantee
unflipped zero at c b vs = over_set at c b (non_null vs)
unflipped (suc n) at c b vs = []

-- = gives In, ≠ gives NotIn, literal-first or not
abbrev pub of_comparison : Operator → ℕ → Column → ℕ → Value → List Guarantee
of_comparison Equal at c n v = unflipped n at c false (v ∷ [])
of_comparison NotEqual at c n v = unflipped n at c true (v ∷ [])
of_comparison Below at c n v = []
of_comparison AtMost at c n v = []
of_comparison Above at c n v = []
of_comparison AtLeast at c n v = []
of_comparison Distinct at c n v = []
of_comparison NotDistinct at c n v = []

abbrev pub of_join : Joining → List Guarantee → List Guarantee
of_join And gs = gs
of_join Or gs = []

-- the guarantees of a predicate whose word stands at a place
unfoldable pub guarantees : ℕ → Predicate → List Guarantee
guarantees at (constant t) = []
guarantees at (join j l r) = of_join j (guarantees (at + 1) l ++ guarantees (at + 1 + width l) r)
guarantees at (not p) = []
guarantees at (column c) = []
guarantees at (is_null_node c) = []
guarantees at (is_not_null c) = []
guarantees at (comparison o c n b v) = of_comparison o at c n v
guarantees at (list b c n vs) = unflipped n at c b vs
guarantees at (like b c v) = []

-- In drops on answer 2, NotIn on answer 1
abbrev pub answer_drops : Bool → ℕ → Bool
answer_drops false a = eqb a 2
answer_drops true a = eqb a 1

-- ---- a guarantee's word: column(8) not-in(1) node word's place(16)

abbrev pub guarantee_layout : List ℕ
guarantee_layout = 8 ∷ 1 ∷ 16 ∷ 39 ∷ []

abbrev pub column_field : ℕ → ℕ
column_field w = field guarantee_layout 0 w

abbrev pub not_in_field : ℕ → ℕ
not_in_field w = field guarantee_layout 1 w

abbrev pub zero_field : ℕ → ℕ
zero_field w = field guarantee_layout 3 w

abbrev pub guarantee_word : Guarantee → ℕ
guarantee_word g = packed guarantee_layout (g.of.0 ∷ bit_of g.not_in ∷ g.place ∷ 0 ∷ [])

abbrev pub guarantee_words : List Guarantee → List ℕ
guarantee_words [] = []
guarantee_words (g ∷ gs) = guarantee_word g ∷ guarantee_words gs
