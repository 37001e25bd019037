-- A guarantee holds of every row for which the predicate is true; so an answer that drops, and that the rows fit, leaves none.
-- Assumes nothing.
use Rattle.std.specs.Prelude.{◌≡◌, refl, Bool, true, false, not, ◌||◌, List, [], ◌∷◌, ◌++◌, ℕ, zero, suc, ◌+◌}
use Rattle.std.proofs.Common.{sym, ◌∙◌, ap, subst, true≢false, ⊎_elim, eqb-true}
use Rattle.std.proofs.Math.Option.{Option, some, none}
use Rattle.std.specs.declared.cmp.Ordering.{Ordering}
use Rattle.std.specs.declared.cmp.Ordering.TheVariants.{Less, Equal as Same, Greater}
use Rattle.operators.specs.Operators.{swap_of}
use Rattle.operators.specs.declared.Operator.{Operator}
use Rattle.operators.specs.declared.Operator.TheVariants.{Equal, NotEqual, Below, AtMost, Above, AtLeast, Distinct, NotDistinct}
use Rattle.kleene.specs.declared.Truth.TheVariants.{True}
use Rattle.kleene.specs.declared.Joining.TheVariants.{And, Or}
use Rattle.kleene.specs.TruthLaws.{false_true, unknown_true, and_true, or_true}
use Rattle.literals.specs.Literals.{Value}
use Rattle.orders.specs.Values.{order_of, by_order, compared, compared_from, is_null, is_same, alike}
use Rattle.orders.specs.ValueLaws.{alike_order, order_of_turned}
use Rattle.orders.proofs.ValueLaws.{known_type}
use Rattle.predicate.specs.declared.Column.{Column}
use Rattle.predicate.specs.Predicates.{Predicate, constant, join, not as negation, column, is_null as is_null_node, is_not_null, comparison, list, like}
use Rattle.predicate.specs.Measures.{width}
use Rattle.predicate.specs.Meaning.{Row, value_in, flips, in_list, not_in_list, listed, meaning}
use Rattle.predicate.specs.Rows.{In}
use Rattle.guarantees.specs.Guarantees.{Guarantee, unless_null, non_null, over_set, unflipped, guarantees, answer_drops}
use Rattle.guarantees.specs.Fitting.{among, FitAnswer}

-- ---- one value against one literal

-- equal, or unequal, for certain
-- the operator that a guarantee is read from
abbrev equality : Bool → Operator
equality false = Equal
equality true = NotEqual

abbrev Settled : Bool → Value → Value → Type 0
Settled not_in v k = (is_null v ≡ false) × (alike v k ≡ not not_in)

same_order : (r : Option Ordering) → by_order Equal r ≡ True → is_same r ≡ true
same_order none e = unknown_true e
same_order (some Less) e = false_true e
same_order (some Same) e = refl
same_order (some Greater) e = false_true e

other_order : (r : Option Ordering) → by_order NotEqual r ≡ True → is_same r ≡ false
other_order none e = unknown_true e
other_order (some Less) e = refl
other_order (some Same) e = false_true e
other_order (some Greater) e = refl

equal_settled : (v k : Value) → compared Equal v k ≡ True → Settled false v k
equal_settled v k e =
    let n = (known_type Equal v k (λ q. unknown_true (sym q ∙ e))).0 in (n, alike_order v k n ∙ same_order (order_of v k) e)

unequal_settled : (v k : Value) → compared NotEqual v k ≡ True → Settled true v k
unequal_settled v k e =
    let n = (known_type NotEqual v k (λ q. unknown_true (sym q ∙ e))).0 in (n, alike_order v k n ∙ other_order (order_of v k) e)

-- a null literal settles nothing
right_there : (o : Operator) (v k : Value) → by_order o (order_of v k) ≡ True → is_null k ≡ false
right_there o v k e = (known_type (swap_of o) k v (λ q. unknown_true (sym q ∙ (order_of_turned v k o ∙ e)))).0

-- ---- one value against a set

or_none : (b : Bool) → (b || false) ≡ b
or_none true = refl
or_none false = refl

or_right : (a b : Bool) → b ≡ true → (a || b) ≡ true
or_right true b e = refl
or_right false b e = e

-- what a guarantee says of a value
pub record Keeps (not_in : Bool) (v : Value) (set : List Value) : Type 0 where
  pub there : is_null v ≡ false
  pub settled : among v set ≡ not not_in

one_keeps : (b : Bool) (v k : Value) → Settled b v k → Keeps b v (k ∷ [])
one_keeps b v k s = record { there = s.0; settled = or_none (alike v k) ∙ s.1 }

in_there : (v : Value) (ks : List Value) → in_list v ks ≡ True → is_null v ≡ false
in_there v [] e = false_true e
in_there v (k ∷ ks) e = ⊎_elim (λ p. (equal_settled v k p).0) (λ p. in_there v ks p) (or_true (compared Equal v k) (in_list v ks) e)

-- a value that IN finds is among the literals that are not null
in_among : (v : Value) (ks : List Value) → in_list v ks ≡ True → among v (non_null ks) ≡ true
in_among v [] e = false_true e
in_among v (k ∷ ks) e = ⊎_elim here (λ p. further (is_null k) (in_among v ks p)) (or_true (compared Equal v k) (in_list v ks) e)
  where
    here : compared Equal v k ≡ True → among v (non_null (k ∷ ks)) ≡ true
    here p = rw (right_there Equal v k p, (equal_settled v k p).1)

    further : (b : Bool) → among v (non_null ks) ≡ true → among v (unless_null b k (non_null ks)) ≡ true
    further true h = h
    further false h = or_right (alike v k) (among v (non_null ks)) h

-- one that NOT IN lets through is among none of them
not_among : (v : Value) (ks : List Value) → not_in_list v ks ≡ True → among v (non_null ks) ≡ false
not_among v [] e = refl
not_among v (k ∷ ks) e =
    let h = and_true (compared NotEqual v k) (not_in_list v ks) e in
    rw (right_there NotEqual v k h.0, (unequal_settled v k h.0).1) (not_among v ks h.1)

not_there : (v k : Value) (ks : List Value) → not_in_list v (k ∷ ks) ≡ True → is_null v ≡ false
not_there v k ks e = (unequal_settled v k (and_true (compared NotEqual v k) (not_in_list v ks) e).0).0

list_keeps : (b : Bool) (v k : Value) (ks : List Value) → listed b v (k ∷ ks) ≡ True → Keeps b v (non_null (k ∷ ks))
list_keeps false v k ks e = record { there = in_there v (k ∷ ks) e; settled = in_among v (k ∷ ks) e }
list_keeps true v k ks e = record { there = not_there v k ks e; settled = not_among v (k ∷ ks) e }

-- ---- guarantees of a predicate

abbrev pub Each : (Guarantee → Type 0) → List Guarantee → Type 0
Each P [] = Unit {0}
Each P (g ∷ gs) = P g × Each P gs

each_append : (P : Guarantee → Type 0) (gs hs : List Guarantee) → Each P gs → Each P hs → Each P (gs ++ hs)
each_append P [] hs a b = b
each_append P (g ∷ gs) hs a b = (a.0, each_append P gs hs a.1 b)

-- a guarantee keeps a row
abbrev pub KeepsRow : Row → Guarantee → Type 0
KeepsRow r g = Keeps g.not_in (value_in r g.of) g.set

set_keeps : (r : Row) (at : ℕ) (c : Column) (b : Bool) (set : List Value) → Keeps b (value_in r c) set → Each (KeepsRow r) (over_set at c b set)
set_keeps r at c b [] k = tt
set_keeps r at c b (v ∷ vs) k = (k, tt)

-- a comparison, its literal on either side
settled_from : (first b : Bool) (v k : Value) → compared_from first (equality b) v k ≡ True → Settled b v k × (is_null k ≡ false)
settled_from false false v k e = (equal_settled v k e, right_there Equal v k e)
settled_from false true v k e = (unequal_settled v k e, right_there NotEqual v k e)
settled_from true false v k e = let h = order_of_turned k v Equal ∙ e in (equal_settled v k h, right_there Equal v k h)
settled_from true true v k e = let h = order_of_turned k v NotEqual ∙ e in (unequal_settled v k h, right_there NotEqual v k h)

comparison_keeps : (r : Row) (b first : Bool) (n at : ℕ) (c : Column) (k : Value) → compared_from first (equality b) (flips n (value_in r c)) k ≡ True
    → Each (KeepsRow r) (unflipped n at c b (k ∷ []))
comparison_keeps r b first zero at c k e =
    let s = settled_from first b (value_in r c) k e in rw s.1 (one_keeps b (value_in r c) k s.0, tt)
comparison_keeps r b first (suc n) at c k e = tt

lists_keep : (r : Row) (b : Bool) (n at : ℕ) (c : Column) (ks : List Value) → listed b (flips n (value_in r c)) ks ≡ True
    → Each (KeepsRow r) (unflipped n at c b ks)
lists_keep r b zero at c [] e = tt
lists_keep r b zero at c (k ∷ ks) e = set_keeps r at c b (non_null (k ∷ ks)) (list_keeps b (value_in r c) k ks e)
lists_keep r b (suc n) at c ks e = tt

-- a row for which the predicate is true is kept by every guarantee
pub guarantees_keep : (r : Row) (at : ℕ) (p : Predicate) → meaning r p ≡ True → Each (KeepsRow r) (guarantees at p)
unfolding guarantees meaning
guarantees_keep r at (constant t) e = tt
guarantees_keep r at (join And l q) e =
    let h = and_true (meaning r l) (meaning r q) e in
    each_append (KeepsRow r) (guarantees (at + 1) l) (guarantees (at + 1 + width l) q) (guarantees_keep r (at + 1) l h.0)
    (guarantees_keep r (at + 1 + width l) q h.1)
guarantees_keep r at (join Or l q) e = tt
guarantees_keep r at (negation p) e = tt
guarantees_keep r at (column c) e = tt
guarantees_keep r at (is_null_node c) e = tt
guarantees_keep r at (is_not_null c) e = tt
guarantees_keep r at (comparison Equal c n b k) e = comparison_keeps r false b n at c k e
guarantees_keep r at (comparison NotEqual c n b k) e = comparison_keeps r true b n at c k e
guarantees_keep r at (comparison Below c n b k) e = tt
guarantees_keep r at (comparison AtMost c n b k) e = tt
guarantees_keep r at (comparison Above c n b k) e = tt
guarantees_keep r at (comparison AtLeast c n b k) e = tt
guarantees_keep r at (comparison Distinct c n b k) e = tt
guarantees_keep r at (comparison NotDistinct c n b k) e = tt
guarantees_keep r at (list b c n ks) e = lists_keep r b n at c ks e
guarantees_keep r at (like b c v) e = tt

-- ---- answers

-- an answer that drops, and that the rows fit, is not kept by a row
pub answer_sound : (g : Guarantee) (answer : ℕ) (rows : List Row) (r : Row) → FitAnswer g answer rows → In r rows
    → answer_drops g.not_in answer ≡ true → KeepsRow r g → ⊥
answer_sound g answer rows r fit i d k = go g.not_in refl
  where
    go : (b : Bool) → g.not_in ≡ b → ⊥
    go true q =
        true≢false
        (sym (fit.all (eqb-true answer 1 (subst (λ x. answer_drops x answer ≡ true) q d)) r i k.there) ∙ (k.settled ∙ ap not q))
    go false q =
        true≢false
        (sym (k.settled ∙ ap not q) ∙ fit.none (eqb-true answer 2 (subst (λ x. answer_drops x answer ≡ true) q d)) r i k.there)
