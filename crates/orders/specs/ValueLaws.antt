-- Values of one kind compare by a total order: the facts about comparing values, once over any such kind. Assumes nothing.
use Rattle.std.specs.Prelude.{◌≡◌, refl, Bool, true, false, not, List, ℕ, zero, suc, ℤ, pos, negsuc, neg_ℤ}
use Rattle.std.proofs.Common.{sym, ◌∙◌, ap, true≢false, arith, le-leb}
use Rattle.std.proofs.Math.Option.{Option, some, none}
use Rattle.std.proofs.Math.Dec.{leb-suc-suc}
use Rattle.std.proofs.Math.IntN.{neg_ℤ-neg_ℤ}
use Rattle.std.specs.Int.Signed.{le_z}
use Rattle.std.proofs.lemmas.Bool.{lt-leb}
use Rattle.operators.specs.Operators.{holds, swap_of, turned, swap_means}
use Rattle.std.specs.declared.cmp.Ordering.{Ordering}
use Rattle.std.specs.declared.cmp.Ordering.TheVariants.{Less, Equal as Same, Greater}
use Rattle.operators.specs.declared.Operator.{Operator}
use Rattle.operators.specs.declared.Operator.TheVariants.{Distinct, NotDistinct}
use Rattle.kleene.specs.declared.Truth.{Truth}
use Rattle.kleene.specs.declared.Truth.TheVariants.{Unknown, True}
use Rattle.kleene.specs.Truths.{truth_of}
use Rattle.kleene.specs.TruthLaws.{false_true, unknown_true}
use Rattle.literals.specs.Literals.{Value, null, int, text, truth, integer_type, text_type, truth_type}
use Rattle.literals.specs.LiteralLaws.{value_type}
use Rattle.orders.specs.Order.{TotalOrder, order_by, compares, compares_swap}
use Rattle.orders.specs.Instances.{numbers, texts, truths}
use Rattle.orders.specs.Values.{order_of, by_order, is_null, is_same, alike}

-- a kind of value: an order, and how its values stand among all
pub record Kind : Type 1 where
  pub order : TotalOrder
  pub value : order.Value → Value
  pub type : ℕ
  pub typed : (a : order.Value) → value_type (value a) ≡ type
  pub back : (v : Value) → value_type v ≡ type → (a : order.Value) × (v ≡ value a)
  pub present : (a : order.Value) → is_null (value a) ≡ false
  pub same : (a b : order.Value) → order_of (value a) (value b) ≡ some (order_by order a b)

pub to_int : (v : Value) → value_type v ≡ integer_type → (a : ℤ) × (v ≡ int a)
to_int null e = absurd (omega arith)
to_int (int a) e = (a, refl)
to_int (text a) e = absurd (omega arith)
to_int (truth a) e = absurd (omega arith)

pub to_text : (v : Value) → value_type v ≡ text_type → (a : List ℕ) × (v ≡ text a)
to_text null e = absurd (omega arith)
to_text (int a) e = absurd (omega arith)
to_text (text a) e = (a, refl)
to_text (truth a) e = absurd (omega arith)

pub to_truth : (v : Value) → value_type v ≡ truth_type → (a : Bool) × (v ≡ truth a)
to_truth null e = absurd (omega arith)
to_truth (int a) e = absurd (omega arith)
to_truth (text a) e = absurd (omega arith)
to_truth (truth a) e = (a, refl)

abbrev pub ints : Kind
ints =
    record {
      order = numbers;
      value = int;
      type = integer_type;
      typed = λ a. refl;
      back = to_int;
      present = λ a. refl;
      same = λ a b. refl;
    }

abbrev pub textual : Kind
textual =
    record {
      order = texts;
      value = text;
      type = text_type;
      typed = λ a. refl;
      back = to_text;
      present = λ a. refl;
      same = λ a b. refl;
    }

abbrev pub truthful : Kind
truthful =
    record {
      order = truths;
      value = truth;
      type = truth_type;
      typed = λ a. refl;
      back = to_truth;
      present = λ a. refl;
      same = λ a b. refl;
    }

-- two values of one kind
pub record Pair (v w : Value) : Type 1 where
  pub kind : Kind
  pub left : kind.order.Value
  pub right : kind.order.Value
  pub left_is : v ≡ kind.value left
  pub right_is : w ≡ kind.value right

-- values of one type that are there are of one kind
pub pair_of : (v w : Value) → is_null v ≡ false → value_type v ≡ value_type w → Pair v w
pair_of null w h e = absurd (true≢false h)
pair_of (int a) w h e = let b = to_int w (sym e) in record { kind = ints; left = a; right = b.0; left_is = refl; right_is = b.1 }
pair_of (text a) w h e = let b = to_text w (sym e) in record { kind = textual; left = a; right = b.0; left_is = refl; right_is = b.1 }
pair_of (truth a) w h e = let b = to_truth w (sym e) in record { kind = truthful; left = a; right = b.0; left_is = refl; right_is = b.1 }

-- values that compare at all are of one type, and there
pub one_type : (v w : Value) → (order_of v w ≡ none → ⊥) → (is_null v ≡ false) × (value_type v ≡ value_type w)
one_type null w h = absurd (h refl)
one_type (int a) null h = absurd (h refl)
one_type (int a) (int b) h = (refl, refl)
one_type (int a) (text b) h = absurd (h refl)
one_type (int a) (truth b) h = absurd (h refl)
one_type (text a) null h = absurd (h refl)
one_type (text a) (int b) h = absurd (h refl)
one_type (text a) (text b) h = (refl, refl)
one_type (text a) (truth b) h = absurd (h refl)
one_type (truth a) null h = absurd (h refl)
one_type (truth a) (int b) h = absurd (h refl)
one_type (truth a) (text b) h = absurd (h refl)
one_type (truth a) (truth b) h = (refl, refl)

-- ---- what compares

pub by_known : (o : Operator) (r : Option Ordering) → (by_order o r ≡ Unknown → ⊥) → r ≡ none → ⊥
by_known o r h e = h (ap (by_order o) e)

module _ (k : Kind) where
  -- of one kind an operator says what the order says
  pub by_kind : (o : Operator) (a b : k.order.Value) → by_order o (order_of (k.value a) (k.value b)) ≡ truth_of (compares k.order o a b)
  by_kind o a b = ap (by_order o) (k.same a b)

-- ---- turning round and flipping

-- the swap from the other side
pub order_of_turned : (v w : Value) (o : Operator) → by_order (swap_of o) (order_of w v) ≡ by_order o (order_of v w)
order_of_turned null null o = refl
order_of_turned null (int b) o = refl
order_of_turned null (text b) o = refl
order_of_turned null (truth b) o = refl
order_of_turned (int a) null o = refl
order_of_turned (int a) (int b) o = ap truth_of (compares_swap numbers o a b)
order_of_turned (int a) (text b) o = refl
order_of_turned (int a) (truth b) o = refl
order_of_turned (text a) null o = refl
order_of_turned (text a) (int b) o = refl
order_of_turned (text a) (text b) o = ap truth_of (compares_swap texts o a b)
order_of_turned (text a) (truth b) o = refl
order_of_turned (truth a) null o = refl
order_of_turned (truth a) (int b) o = refl
order_of_turned (truth a) (text b) o = refl
order_of_turned (truth a) (truth b) o = ap truth_of (compares_swap truths o a b)

le_z_minus : (a b : ℤ) → le_z (neg_ℤ a) b ≡ le_z (neg_ℤ b) a
le_z_minus (pos zero) (pos zero) = refl
le_z_minus (pos zero) (pos (suc m)) = le-leb 0 (suc m) (omega arith)
le_z_minus (pos zero) (negsuc m) = sym (lt-leb (suc m) 0 (omega arith))
le_z_minus (pos (suc n)) (pos zero) = sym (le-leb 0 (suc n) (omega arith))
le_z_minus (pos (suc n)) (pos (suc m)) = refl
le_z_minus (pos (suc n)) (negsuc m) = sym (leb-suc-suc m n)
le_z_minus (negsuc n) (pos zero) = lt-leb (suc n) 0 (omega arith)
le_z_minus (negsuc n) (pos (suc m)) = leb-suc-suc n m
le_z_minus (negsuc n) (negsuc m) = refl

minus_le_z : (a b : ℤ) → le_z b (neg_ℤ a) ≡ le_z a (neg_ℤ b)
minus_le_z a b = rw (neg_ℤ-neg_ℤ a, neg_ℤ-neg_ℤ b) at (le_z_minus (neg_ℤ b) (neg_ℤ a))

-- minus turns the order of integers round
pub order_minus : (a b : ℤ) → order_by numbers (neg_ℤ a) b ≡ order_by numbers (neg_ℤ b) a
unfolding order_by
order_minus a b = rw (minus_le_z a b, le_z_minus a b)

pub minus_turned : (o : Operator) (a b : ℤ) → compares numbers o (neg_ℤ a) b ≡ compares numbers (swap_of o) a (neg_ℤ b)
minus_turned o a b = ap (holds o) (order_minus a b) ∙ sym (compares_swap numbers o (neg_ℤ b) a)

-- and so does NOT that of truth values
pub order_not : (a b : Bool) → order_by truths (not a) b ≡ turned (order_by truths a (not b))
unfolding order_by
order_not true true = refl
order_not true false = refl
order_not false true = refl
order_not false false = refl

pub not_turned : (o : Operator) (a b : Bool) → compares truths (swap_of o) (not a) b ≡ compares truths o a (not b)
not_turned o a b = ap (holds (swap_of o)) (order_not a b) ∙ swap_means o (order_by truths a (not b))

-- ---- distinct-from

-- a value that is there is like another where they compare as equal
pub alike_order : (v w : Value) → is_null v ≡ false → alike v w ≡ is_same (order_of v w)
alike_order null w h = absurd (true≢false h)
alike_order (int a) w h = refl
alike_order (text a) w h = refl
alike_order (truth a) w h = refl

pub apart : (r : Option Ordering) → by_order Distinct r ≡ True → truth_of (not (is_same r)) ≡ True
apart none e = unknown_true e
apart (some Less) e = refl
apart (some Same) e = false_true e
apart (some Greater) e = refl

pub together : (r : Option Ordering) → by_order NotDistinct r ≡ True → truth_of (is_same r) ≡ True
together none e = unknown_true e
together (some Less) e = false_true e
together (some Same) e = refl
together (some Greater) e = false_true e

pub unknown_not : (t : Truth) → t ≡ True → t ≡ Unknown → ⊥
unknown_not t e f = unknown_true (sym f ∙ e)
