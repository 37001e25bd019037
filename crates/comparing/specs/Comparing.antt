-- Comparisons of values by the orders of their types, and operators that are asked of an order. Assumes nothing.
use Rattle.std.specs.Prelude.{◌≡◌, refl, Option as Maybe, None, Some, Bool, true, false, not, ◌&&◌, List, ℕ, ◌/◌, ◌^◌, eqb, leb, ltb, ℤ, pos}
use Rattle.std.proofs.Common.{sym, ap, ◌∙◌, arith, leb-true, leb-false, eq-eqb, ne_eqb}
use Rattle.std.proofs.Math.Option.{Option, some, none}
use Rattle.words.specs.Word.{word_at}
use Rattle.words.specs.Bytes.{byte_order}
use Rattle.std.specs.Ordering.{bool_cmp}
use Rattle.std.specs.declared.cmp.Ordering.{Ordering}
use Rattle.operators.specs.Operators.{swap_of}
use Rattle.operators.specs.declared.Operator.{Operator}
use Rattle.operators.specs.declared.Operator.TheVariants.{Equal, NotEqual, Below, AtMost, Above, AtLeast, Distinct, NotDistinct}
use Rattle.kleene.specs.Truths.{truth_of}
use Rattle.literals.specs.Signed.{signed, int_order}
use Rattle.literals.specs.Literals.{Value, int, type_of, offset_of, value_of, value_at}
use Rattle.literals.specs.LiteralLaws.{literal_int}
use Rattle.orders.specs.Order.{order_by, compares_test}
use Rattle.orders.specs.Instances.{numbers, texts, truths, lt_z_numbers, below_texts}
use Rattle.orders.specs.Values.{order_of, by_order, compared, compared_from}
use Rattle.orders.specs.ValueLaws.{order_of_turned}

-- ---- orders

-- how two values compare: an order, or none
abbrev pub order_in : Maybe Ordering → Option Ordering
order_in None = none
order_in (Some r) = some r

pub int_order_lem : (a b : ℤ) → int_order a b ≡ order_by numbers a b
unfolding int_order order_by
int_order_lem a b = rw (lt_z_numbers a b, lt_z_numbers b a)

pub text_order : (a b : List ℕ) → byte_order a b ≡ order_by texts a b
unfolding byte_order order_by
text_order a b = rw (below_texts a b, below_texts b a)

pub truth_order : (a b : Bool) → bool_cmp a b ≡ order_by truths a b
unfolding order_by
truth_order false false = refl
truth_order false true = refl
truth_order true false = refl
truth_order true true = refl

-- ---- operators

-- an operator that is asked of an order: distinct-from is not
abbrev pub Asks : Operator → Type 0
Asks Equal = Unit {0}
Asks NotEqual = Unit {0}
Asks Below = Unit {0}
Asks AtMost = Unit {0}
Asks Above = Unit {0}
Asks AtLeast = Unit {0}
Asks Distinct = ⊥
Asks NotDistinct = ⊥

pub asks_order : (o : Operator) (v w : Value) → Asks o → compared o v w ≡ by_order o (order_of v w)
asks_order Equal v w h = refl
asks_order NotEqual v w h = refl
asks_order Below v w h = refl
asks_order AtMost v w h = refl
asks_order Above v w h = refl
asks_order AtLeast v w h = refl
asks_order Distinct v w h = absurd h
asks_order NotDistinct v w h = absurd h

-- the literal k on the left
pub asks_first : (o : Operator) (v k : Value) → Asks o → compared_from true o v k ≡ by_order (swap_of o) (order_of v k)
asks_first o v k h = asks_order o k v h ∙ sym (order_of_turned k v o)

-- ---- integers

-- the top 40 bits of an integer's word: type 1, length 8, zero field 0
abbrev pub integer_top : ℕ
integer_top = 275012124672

-- such a word names an integer
pub integer_value : (pool : List ℕ) (w : ℕ) → w / 2 ^ 24 ≡ integer_top → value_at pool w ≡ int (signed (word_at pool (offset_of w)))
integer_value pool w e = let t : type_of w ≡ 1 = omega arith in ap (value_of pool) (literal_int pool w t)

pub ints_after : (o : Operator) (a b : ℤ) (r : Ordering) → Asks o → r ≡ int_order a b → by_order o (some r) ≡ compared_from false o (int a) (int b)
ints_after o a b r h e = ap (λ (x : Ordering). by_order o (some x)) (e ∙ int_order_lem a b) ∙ sym (asks_order o (int a) (int b) h)

pub ints_first : (o : Operator) (a b : ℤ) (r : Ordering) → Asks o → r ≡ int_order b a → by_order o (some r) ≡ compared_from true o (int a) (int b)
ints_first o a b r h e = ap (λ (x : Ordering). by_order o (some x)) (e ∙ int_order_lem b a) ∙ sym (asks_order o (int b) (int a) h)

-- ---- counts

pub positive_is : (n : ℕ) → compared Above (int (pos n)) (int (pos 0)) ≡ truth_of (ltb 0 n)
positive_is n = ap truth_of (compares_test numbers Above (pos n) (pos 0) ∙ sym (lt_z_numbers (pos 0) (pos n)))

same_both : (m n : ℕ) → (leb m n && leb n m) ≡ eqb m n
same_both m n = go (leb m n) (leb n m) refl refl
  where
    go : (x y : Bool) → leb m n ≡ x → leb n m ≡ y → (x && y) ≡ eqb m n
    go true true e f = let p = leb-true m n e in let q = leb-true n m f in sym (eq-eqb m n (omega arith))
    go true false e f = let q = leb-false n m f in sym (ne_eqb m n (λ z. omega arith))
    go false y e f = let p = leb-false m n e in sym (ne_eqb m n (λ z. omega arith))

pub differ_is : (m n : ℕ) → compared NotEqual (int (pos m)) (int (pos n)) ≡ truth_of (not (eqb m n))
differ_is m n = ap truth_of (compares_test numbers NotEqual (pos m) (pos n) ∙ ap not (same_both m n))
