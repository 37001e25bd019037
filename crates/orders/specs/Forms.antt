-- The form of each comparison over a least and a greatest value, in any total order, and the facts from which proofs/Forms.antt has that
-- it is true where a value between them satisfies the comparison and, if least ≤ greatest, only there. Assumes nothing.
use Rattle.std.specs.Prelude.{◌≡◌, refl, Bool, true, false, not, ◌&&◌, ◌||◌}
use Rattle.std.proofs.Common.{sym, ◌∙◌, true≢false}
use Rattle.std.proofs.Math.Bool.{and-eq-true_iff}
use Rattle.std.proofs.lemmas.Bool.{not-true}
use Rattle.operators.specs.declared.Operator.{Operator}
use Rattle.operators.specs.declared.Operator.TheVariants.{Equal, NotEqual, Below, AtMost, Above, AtLeast, Distinct, NotDistinct}
use Rattle.orders.specs.Order.{TotalOrder, ltb, eqb, compares, test, compares_test, compares_swap}

pub both : (a b : Bool) → a ≡ true → b ≡ true → (a && b) ≡ true
both a b e f = rw (e, f)

module _ (o : TotalOrder) where
  abbrev pub equal_form : o.Value → o.Value → o.Value → Bool
  equal_form lo hi k = compares o AtMost lo k && compares o AtMost k hi

  abbrev pub not_equal_form : o.Value → o.Value → o.Value → Bool
  not_equal_form lo hi k = compares o NotEqual lo k || compares o NotEqual k hi

  -- the comparison with k, over the least and the greatest value
  abbrev pub form : Operator → o.Value → o.Value → o.Value → Bool
  form Equal lo hi k = equal_form lo hi k
  form NotEqual lo hi k = not_equal_form lo hi k
  form Below lo hi k = compares o Below lo k
  form AtMost lo hi k = compares o AtMost lo k
  form Above lo hi k = compares o Above hi k
  form AtLeast lo hi k = compares o AtLeast hi k
  form Distinct lo hi k = not_equal_form lo hi k
  form NotDistinct lo hi k = equal_form lo hi k

  pub compared : (op : Operator) (a b : o.Value) → test o op a b ≡ true → compares o op a b ≡ true
  compared op a b e = compares_test o op a b ∙ e

  pub tested : (op : Operator) (a b : o.Value) → compares o op a b ≡ true → test o op a b ≡ true
  tested op a b e = sym (compares_test o op a b) ∙ e

  pub below_trans : (a b c : o.Value) → ltb o a b ≡ true → o.leb b c ≡ true → ltb o a c ≡ true
  below_trans a b c e f = go (o.leb c a) refl
    where
      go : (x : Bool) → o.leb c a ≡ x → not x ≡ true
      go true g = absurd (true≢false (sym (o.le_trans b c a f g) ∙ not-true (o.leb b a) e))
      go false g = refl

  pub trans_below : (a b c : o.Value) → o.leb a b ≡ true → ltb o b c ≡ true → ltb o a c ≡ true
  trans_below a b c e f = go (o.leb c a) refl
    where
      go : (x : Bool) → o.leb c a ≡ x → not x ≡ true
      go true g = absurd (true≢false (sym (o.le_trans c a b g e) ∙ not-true (o.leb c b) f))
      go false g = refl

  -- ---- a value between the bounds that satisfies the comparison makes the form true

  module _ (lo hi k v : o.Value) (low : o.leb lo v ≡ true) (high : o.leb v hi ≡ true) where
    pub equal_true : eqb o v k ≡ true → equal_form lo hi k ≡ true
    equal_true h =
        let p = (and-eq-true_iff (o.leb v k) (o.leb k v)).0 h in
        both _ _ (compared AtMost lo k (o.le_trans lo v k low p.0)) (compared AtMost k hi (o.le_trans k v hi p.1 high))

    -- were both bounds k, so would be v
    pub not_equal_true : not (eqb o v k) ≡ true → not_equal_form lo hi k ≡ true
    not_equal_true h = rw (compares_test o NotEqual lo k, compares_test o NotEqual k hi) (go (eqb o lo k) (eqb o k hi) refl refl)
      where
        go : (x y : Bool) → eqb o lo k ≡ x → eqb o k hi ≡ y → (not x || not y) ≡ true
        go true true e f =
            let p = (and-eq-true_iff (o.leb lo k) (o.leb k lo)).0 e in
            let q = (and-eq-true_iff (o.leb k hi) (o.leb hi k)).0 f in
            absurd (true≢false (sym (both _ _ (o.le_trans v hi k high q.1) (o.le_trans k lo v p.1 low)) ∙ not-true (eqb o v k) h))
        go true false e f = refl
        go false y e f = refl

  -- ---- where the form is true, some value between the bounds satisfies the comparison

  pub record Met (op : Operator) (lo hi k : o.Value) : Type 0 where
    pub value : o.Value
    pub low : o.leb lo value ≡ true
    pub high : o.leb value hi ≡ true
    pub meets : compares o op value k ≡ true

  module _ (lo hi k : o.Value) (order : o.leb lo hi ≡ true) where
    pub at_least : (op : Operator) → compares o op lo k ≡ true → Met op lo hi k
    at_least op h = record { value = lo; low = o.le_refl lo; high = order; meets = h }

    pub at_greatest : (op : Operator) → compares o op hi k ≡ true → Met op lo hi k
    at_greatest op h = record { value = hi; low = order; high = o.le_refl hi; meets = h }

    pub equal_met : (op : Operator) → compares o op k k ≡ true → equal_form lo hi k ≡ true → Met op lo hi k
    equal_met op e h =
        let p = (and-eq-true_iff (compares o AtMost lo k) (compares o AtMost k hi)).0 h in
        record { value = k; low = tested AtMost lo k p.0; high = tested AtMost k hi p.1; meets = e }

    pub not_equal_met : (op : Operator) → ((v : o.Value) → compares o NotEqual v k ≡ true → compares o op v k ≡ true)
        → not_equal_form lo hi k ≡ true → Met op lo hi k
    not_equal_met op f h = go (compares o NotEqual lo k) refl h
      where
        go : (x : Bool) → compares o NotEqual lo k ≡ x → (x || compares o NotEqual k hi) ≡ true → Met op lo hi k
        go true e h = at_least op (f lo e)
        go false e h = at_greatest op (f hi (compares_swap o NotEqual k hi ∙ h))

    pub same : eqb o k k ≡ true
    same = both _ _ (o.le_refl k) (o.le_refl k)
