-- A comparison whose literal was turned to the right and whose flips were taken off says the same of a row's value. Assumes nothing.
use Rattle.std.specs.Prelude.{◌≡◌, refl, Bool, true, false, cond, not, ℕ, zero, suc, eqb, ℤ, Option, Some, None}
use Rattle.std.proofs.Common.{sym, ◌∙◌, ap, arith, eqb-true, lt-ltb}
use Rattle.operators.specs.Operators.{swap_of}
use Rattle.operators.specs.declared.Operator.{Operator}
use Rattle.operators.specs.declared.Operator.TheVariants.{Equal, NotEqual, Below, AtMost, Above, AtLeast, Distinct, NotDistinct}
use Rattle.kleene.specs.declared.Truth.TheVariants.{True}
use Rattle.kleene.specs.Truths.{truth_of}
use Rattle.kleene.specs.TruthLaws.{unknown_true}
use Rattle.literals.specs.Signed.{negated, negated_is}
use Rattle.literals.specs.Literals.{Value, null, int, text, truth, integer_type, truth_type}
use Rattle.orders.specs.Values.{order_of, by_order, compared, compared_from}
use Rattle.orders.specs.ValueLaws.{order_of_turned, minus_turned, not_turned}
use Rattle.orders.proofs.ValueLaws.{by_compared}
use Rattle.predicate.specs.Meaning.{flip, flips}
use Rattle.predicate.specs.Rows.{OfType}
use Rattle.table.specs.Comparisons.{Turned, asks, stays, minus_int, minus, minuses, negated_truth, flip_once, truth_flips, no_flips, flipped, ordered, unturned, turned}

-- ---- values of a type, or blanks

abbrev Numeric : Value → Type 0
Numeric null = Unit {0}
Numeric (int z) = Unit {0}
Numeric (text bs) = ⊥
Numeric (truth b) = ⊥

abbrev Truthful : Value → Type 0
Truthful null = Unit {0}
Truthful (int z) = ⊥
Truthful (text bs) = ⊥
Truthful (truth b) = Unit {0}

numeric : (type : ℕ) (v : Value) → OfType type v → type ≡ integer_type → Numeric v
numeric type null h e = tt
numeric type (int z) h e = tt
numeric type (text bs) h e = let k = h.0 in absurd (omega arith)
numeric type (truth b) h e = absurd (omega arith)

truthful : (type : ℕ) (v : Value) → OfType type v → type ≡ truth_type → Truthful v
truthful type null h e = tt
truthful type (int z) h e = let k = h.0 in absurd (omega arith)
truthful type (text bs) h e = let k = h.0 in absurd (omega arith)
truthful type (truth b) h e = tt

flip_numeric : (v : Value) → Numeric v → Numeric (flip v)
flip_numeric null h = tt
flip_numeric (int z) h = tt
flip_numeric (text bs) h = h
flip_numeric (truth b) h = h

flips_numeric : (n : ℕ) (v : Value) → Numeric v → Numeric (flips n v)
flips_numeric zero v h = h
flips_numeric (suc n) v h = flip_numeric (flips n v) (flips_numeric n v h)

-- ---- what is asked holds of the value

-- o of v and k holds wherever the comparison held
abbrev Holds : Operator → Value → Value → Type 0
Holds o v k = by_order o (order_of v k) ≡ True

same_asks : (o p : Operator) (k l v : Value) → asks o k ≡ asks p l → Holds o v k → Holds p v l
same_asks o p k l v e h = let a : o ≡ p = cc in let b : k ≡ l = cc in rw (← a, ← b) h

never_asks : {A : Type 0} (p : Operator) (l : Value) → stays ≡ asks p l → A
never_asks p l e = cc

-- one minus less
minus_means : (f : Operator → Value → Turned) (o p : Operator) (k l w v : Value) → Numeric w
    → ((o : Operator) (k : Value) → f o k ≡ asks p l → Holds o w k → Holds p v l)
    → minus f o k ≡ asks p l → Holds o (flip w) k → Holds p v l
minus_means f o p k l null v n next e h = unknown_true h
minus_means f o p k l (text bs) v n next e h = absurd n
minus_means f o p k l (truth b) v n next e h = absurd n
minus_means f o p null l (int a) v n next e h = unknown_true h
minus_means f o p (text bs) l (int a) v n next e h = unknown_true h
minus_means f o p (truth b) l (int a) v n next e h = unknown_true h
minus_means f o p (int z) l (int a) v n next e h = go (negated z) refl e
  where
    go : (r : Option ℤ) → negated z ≡ r → minus_int f o r ≡ asks p l → Holds p v l
    go (Some y) q e = next (swap_of o) (int y) e (rw (negated_is z y q) (ap truth_of (sym (minus_turned o a z)) ∙ h))
    go None q e = never_asks p l e

minuses_means : (n : ℕ) (o p : Operator) (k l v : Value) → Numeric v → minuses n o k ≡ asks p l → Holds o (flips n v) k → Holds p v l
unfolding minuses
minuses_means zero o p k l v h e f = same_asks o p k l v e f
minuses_means (suc n) o p k l v h e f =
    minus_means (minuses n) o p k l (flips n v) v (flips_numeric n v h) (λ o k. minuses_means n o p k l v h) e f

-- one NOT less
not_means : (o p : Operator) (k l v : Value) → Truthful v → swap_of o ≡ o → asks o (negated_truth k) ≡ asks p l → Holds o (flip v) k → Holds p v l
not_means o p k l null t s e h = unknown_true h
not_means o p k l (int z) t s e h = absurd t
not_means o p k l (text bs) t s e h = absurd t
not_means o p null l (truth b) t s e h = unknown_true h
not_means o p (int z) l (truth b) t s e h = unknown_true h
not_means o p (text bs) l (truth b) t s e h = unknown_true h
not_means o p (truth q) l (truth b) t s e h =
    same_asks o p (truth (not q)) l (truth b) e (ap truth_of (sym (not_turned o b q)) ∙ rw s h)

once_means : (o p : Operator) (k l v : Value) → Truthful v → flip_once o k ≡ asks p l → Holds o (flip v) k → Holds p v l
once_means Equal p k l v t e h = not_means Equal p k l v t refl e h
once_means NotEqual p k l v t e h = not_means NotEqual p k l v t refl e h
once_means Below p k l v t e h = never_asks p l e
once_means AtMost p k l v t e h = never_asks p l e
once_means Above p k l v t e h = never_asks p l e
once_means AtLeast p k l v t e h = never_asks p l e
once_means Distinct p k l v t e h = never_asks p l e
once_means NotDistinct p k l v t e h = never_asks p l e

truth_means : (n : ℕ) (o p : Operator) (k l v : Value) → Truthful v → truth_flips n o k ≡ asks p l → Holds o (flips n v) k → Holds p v l
truth_means zero o p k l v t e h = same_asks o p k l v e h
truth_means (suc zero) o p k l v t e h = once_means o p k l v t e h
truth_means (suc (suc n)) o p k l v t e h = never_asks p l e

none_means : (n : ℕ) (o p : Operator) (k l v : Value) → no_flips n o k ≡ asks p l → Holds o (flips n v) k → Holds p v l
none_means zero o p k l v e h = same_asks o p k l v e h
none_means (suc n) o p k l v e h = never_asks p l e

-- flips, by the column's type
flipped_means : (type n : ℕ) (o p : Operator) (k l v : Value) → OfType type v → flipped type n o k ≡ asks p l → Holds o (flips n v) k → Holds p v l
flipped_means type n o p k l v t e h = go (eqb type integer_type) (eqb type truth_type) refl refl e
  where
    go : (a b : Bool) → eqb type integer_type ≡ a → eqb type truth_type ≡ b
        → cond a (minuses n o k) (cond b (truth_flips n o k) (no_flips n o k)) ≡ asks p l → Holds p v l
    go true b f g e = minuses_means n o p k l v (numeric type v t (eqb-true type integer_type f)) e h
    go false true f g e = truth_means n o p k l v (truthful type v t (eqb-true type truth_type g)) e h
    go false false f g e = none_means n o p k l v e h

-- a literal on the left
abbrev HoldsFrom : Bool → Operator → Value → Value → Type 0
HoldsFrom true o v k = by_order o (order_of k v) ≡ True
HoldsFrom false o v k = by_order o (order_of v k) ≡ True

ordered_means : (type n : ℕ) (first : Bool) (o p : Operator) (k l v : Value) → OfType type v → ordered type n first o k ≡ asks p l
    → HoldsFrom first o (flips n v) k → compared p v l ≡ True
ordered_means type n true o p k l v t e h =
    by_compared p v l (flipped_means type n (swap_of o) p k l v t e (order_of_turned k (flips n v) o ∙ h))
ordered_means type n false o p k l v t e h = by_compared p v l (flipped_means type n o p k l v t e h)

-- distinct-from, neither turned nor flipped
unturned_means : (n : ℕ) (first : Bool) (o p : Operator) (k l v : Value) → unturned n first o k ≡ asks p l
    → compared_from first o (flips n v) k ≡ True → compared p v l ≡ True
unturned_means n true o p k l v e h = never_asks p l e
unturned_means zero false o p k l v e h = let a : o ≡ p = cc in let b : k ≡ l = cc in rw (← a, ← b) h
unturned_means (suc n) false o p k l v e h = never_asks p l (rw (lt-ltb 0 (suc n) (omega arith)) at e)

pub turned_means : (type : ℕ) (o : Operator) (n : ℕ) (first : Bool) (k v : Value) (p : Operator) (l : Value) → OfType type v
    → turned type o n first k ≡ asks p l → compared_from first o (flips n v) k ≡ True → compared p v l ≡ True
unfolding turned
turned_means type Equal n true k v p l t e h = ordered_means type n true Equal p k l v t e h
turned_means type Equal n false k v p l t e h = ordered_means type n false Equal p k l v t e h
turned_means type NotEqual n true k v p l t e h = ordered_means type n true NotEqual p k l v t e h
turned_means type NotEqual n false k v p l t e h = ordered_means type n false NotEqual p k l v t e h
turned_means type Below n true k v p l t e h = ordered_means type n true Below p k l v t e h
turned_means type Below n false k v p l t e h = ordered_means type n false Below p k l v t e h
turned_means type AtMost n true k v p l t e h = ordered_means type n true AtMost p k l v t e h
turned_means type AtMost n false k v p l t e h = ordered_means type n false AtMost p k l v t e h
turned_means type Above n true k v p l t e h = ordered_means type n true Above p k l v t e h
turned_means type Above n false k v p l t e h = ordered_means type n false Above p k l v t e h
turned_means type AtLeast n true k v p l t e h = ordered_means type n true AtLeast p k l v t e h
turned_means type AtLeast n false k v p l t e h = ordered_means type n false AtLeast p k l v t e h
turned_means type Distinct n first k v p l t e h = unturned_means n first Distinct p k l v e h
turned_means type NotDistinct n first k v p l t e h = unturned_means n first NotDistinct p k l v e h
