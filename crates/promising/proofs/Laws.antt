-- Laws of promises in the code's terms. Assumes nothing.
use mathlib.Core.Path.{◌≡◌, refl}
use mathlib.Core.Bool.{Bool, true, false, not, ◌||◌}
use mathlib.Core.List.{List, [], ◌∷◌}
use Prim.Native.Nat.{ℕ, zero, suc, ◌+◌, ◌-◌, ◌<◌}
use native.Mathlib.Omega.{arith}
use lib.ListN.{get_or}
use lib.Dec.{eqb}
use Rattle.std.specs.List.{list_any, range_with_len}
use Rattle.operators.specs.declared.Operator.{Operator}
use Rattle.operators.specs.declared.Operator.TheVariants.{Equal, NotEqual, Below, AtMost, Above, AtLeast, Distinct, NotDistinct}
use Rattle.kleene.specs.declared.Joining.TheVariants.{And, Or}
use Rattle.literals.specs.Signed.{signed}
use Rattle.literals.specs.Literals.{Value, type_of, offset_of, length_of, null_type, literal_of, value_of, value_at}
use Rattle.literals.specs.declared.Literal.{Literal}
use Rattle.literals.specs.declared.Literal.TheVariants.{Null, Int, Text, Truth}
use Rattle.words.specs.Word.{word_at}
use Rattle.orders.specs.Values.{is_null}
use Rattle.predicate.specs.Predicates.{Read, values_at, then_both, node_predicate, node_at, predicate_at, read_node}
use Rattle.predicate.specs.declared.Column.{Column}
use Rattle.predicate.specs.declared.Node.{Node}
use Rattle.predicate.specs.declared.Node.TheVariants.{Constant, Join, Not, TruthColumn, IsNull, IsNotNull, Comparison, List as InList, Like}
use Rattle.guarantees.specs.Guarantees.{Guarantee, unless_null, non_null, over_set, unflipped, of_comparison, guarantees, guarantee_word, guarantee_words}
use Rattle.promising.specs.Promises.{bare, is_value, any_value, if_some, of_set, of_operator, promise_of}
use Rattle.promising.specs.declared.Promise.{Promise}
use Rattle.promising.specs.declared.Promise.TheVariants.{Nothing, Keeps, Both}

-- ---- the literals of a list, from a place on

-- the i-th is not null
abbrev pub is_some_at : List ℕ → ℕ → ℕ → Bool
is_some_at ws at i = not (eqb (type_of (get_or ws (at + i) 0)) null_type)

pub any_of_list : (ws : List ℕ) (at n i : ℕ) → list_any (is_some_at ws at) (range_with_len i n) ≡ any_value ws n (at + i)
unfolding any_value
any_of_list ws at zero i = refl
any_of_list ws at (suc n) i = let e : at + i + 1 ≡ at + (i + 1) = omega arith in rw (any_of_list ws at n (i + 1), e)

-- ---- a literal word that is not null is one with a value

null_type_lem : (pool : List ℕ) (w k : ℕ) → k < 4
    → is_null (value_of pool (get_or (Null ∷ Int (signed (word_at pool (offset_of w))) ∷ Text (record { at = offset_of w; len = length_of w }) ∷ Truth (eqb (offset_of w) 1) ∷ []) k Null))
    ≡ eqb k null_type
null_type_lem pool w zero h = refl
null_type_lem pool w (suc zero) h = refl
null_type_lem pool w (suc (suc zero)) h = refl
null_type_lem pool w (suc (suc (suc zero))) h = refl
null_type_lem pool w (suc (suc (suc (suc k)))) h = absurd (omega arith)

value_null : (pool : List ℕ) (w : ℕ) → is_null (value_at pool w) ≡ eqb (type_of w) null_type
unfolding literal_of
value_null pool w = null_type_lem pool w (type_of w) (omega arith)

abbrev some : List Value → Bool
some [] = false
some (v ∷ vs) = true

any_unless : (b : Bool) (v : Value) (vs : List Value) → (not b || some vs) ≡ some (unless_null b v vs)
any_unless true v vs = refl
any_unless false v vs = refl

any_values : (pool ws : List ℕ) (n at : ℕ) → any_value ws n at ≡ some (non_null (values_at pool ws n at))
unfolding any_value values_at
any_values pool ws zero at = refl
any_values pool ws (suc n) at =
    let v : Value = value_at pool (get_or ws at 0) in
    rw (← value_null pool (get_or ws at 0), any_values pool ws n (at + 1)) (any_unless (is_null v) v (non_null (values_at pool ws n (at + 1))))

-- ---- what a promise says of a node's guarantees

-- none, one, or Q
abbrev pub Gives : Type 0 → ℕ → List Guarantee → Promise → Type 0
Gives Q at gs Nothing = gs ≡ []
Gives Q at gs (Keeps c b) = guarantee_words gs ≡ guarantee_word (bare c b at) ∷ []
Gives Q at gs Both = Q

over_gives : (Q : Type 0) (at : ℕ) (c : Column) (b : Bool) (vs : List Value) → Gives Q at (over_set at c b vs) (if_some c b (some vs))
over_gives Q at c b [] = refl
over_gives Q at c b (v ∷ vs) = refl

set_gives : (Q : Type 0) (at : ℕ) (c : Column) (b : Bool) (n : ℕ) (vs : List Value)
    → Gives Q at (unflipped n at c b vs) (of_set c b n (some (non_null vs)))
set_gives Q at c b zero vs = over_gives Q at c b (non_null vs)
set_gives Q at c b (suc n) vs = refl

some_value : (pool : List ℕ) (l : Literal) → is_value l ≡ some (non_null (value_of pool l ∷ []))
some_value pool Null = refl
some_value pool (Int z) = refl
some_value pool (Text r) = refl
some_value pool (Truth b) = refl

comparison_gives : (Q : Type 0) (pool : List ℕ) (at : ℕ) (o : Operator) (c : Column) (n : ℕ) (l : Literal)
    → Gives Q at (of_comparison o at c n (value_of pool l)) (of_operator o c n (is_value l))
comparison_gives Q pool at Equal c n l = rw (some_value pool l) (set_gives Q at c false n (value_of pool l ∷ []))
comparison_gives Q pool at NotEqual c n l = rw (some_value pool l) (set_gives Q at c true n (value_of pool l ∷ []))
comparison_gives Q pool at Below c n l = refl
comparison_gives Q pool at AtMost c n l = refl
comparison_gives Q pool at Above c n l = refl
comparison_gives Q pool at AtLeast c n l = refl
comparison_gives Q pool at Distinct c n l = refl
comparison_gives Q pool at NotDistinct c n l = refl

module _ (pool ws : List ℕ) (f : ℕ → Read) (at : ℕ) where
  node_gives : (n : Node)
      → Gives (node_predicate f pool ws at n ≡ then_both And f (f (at + 1))) at (guarantees at (node_predicate f pool ws at n).predicate) (promise_of ws at n)
  unfolding guarantees
  node_gives (Constant t) = refl
  node_gives (Join And) = refl
  node_gives (Join Or) = refl
  node_gives Not = refl
  node_gives (TruthColumn c) = refl
  node_gives (IsNull c) = refl
  node_gives (IsNotNull c) = refl
  node_gives (Comparison o c n b l) = comparison_gives _ pool at o c n l
  node_gives (InList b c n k) = rw (any_values pool ws k (at + 1)) (set_gives _ at c b n (values_at pool ws k (at + 1)))
  node_gives (Like b c l) = refl

module _ (pool ws : List ℕ) (d at : ℕ) (h : d ≡ 0 → ⊥) where
  abbrev here : Read
  here = predicate_at pool ws d at

  abbrev child : ℕ → Read
  child = predicate_at pool ws (d - 1)

  pub gives : (x : Promise) → x ≡ promise_of ws at (node_at pool ws at) → Gives (here ≡ then_both And child (child (at + 1))) at (guarantees at here.predicate) x
  gives x e = rw (e, read_node pool ws d at h (node_at pool ws at) refl) (node_gives pool ws child at (node_at pool ws at))
