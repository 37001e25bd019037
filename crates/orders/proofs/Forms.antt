-- The form of each comparison over a least and a greatest value: true where a value between them satisfies the comparison, and, if
-- least ≤ greatest, only there. Assumes nothing.
use Rattle.std.specs.Prelude.{◌≡◌, true, false}
use Rattle.std.proofs.Common.{sym, ◌∙◌, true≢false}
use Rattle.operators.specs.declared.Operator.{Operator}
use Rattle.operators.specs.declared.Operator.TheVariants.{Equal, NotEqual, Below, AtMost, Above, AtLeast, Distinct, NotDistinct}
use Rattle.orders.specs.Order.{TotalOrder, compares}
use Rattle.orders.specs.Forms.{form, compared, tested, below_trans, trans_below, equal_true, not_equal_true, Met, at_least, at_greatest, equal_met, not_equal_met, same}

-- a value between the bounds that satisfies the comparison makes the form true
module _ (o : TotalOrder) (lo hi k v : o.Value) (low : o.leb lo v ≡ true) (high : o.leb v hi ≡ true) where
  pub form_true : (op : Operator) → compares o op v k ≡ true → form o op lo hi k ≡ true
  form_true Equal h = equal_true o lo hi k v low high (tested o Equal v k h)
  form_true NotEqual h = not_equal_true o lo hi k v low high (tested o NotEqual v k h)
  form_true Below h = compared o Below lo k (trans_below o lo v k low (tested o Below v k h))
  form_true AtMost h = compared o AtMost lo k (o.le_trans lo v k low (tested o AtMost v k h))
  form_true Above h = compared o Above hi k (below_trans o k v hi (tested o Above v k h) high)
  form_true AtLeast h = compared o AtLeast hi k (o.le_trans k v hi (tested o AtLeast v k h) high)
  form_true Distinct h = not_equal_true o lo hi k v low high (tested o Distinct v k h)
  form_true NotDistinct h = equal_true o lo hi k v low high (tested o NotDistinct v k h)

  -- so where it is false, no value between them does
  pub form_false : (op : Operator) → form o op lo hi k ≡ false → compares o op v k ≡ true → ⊥
  form_false op e h = true≢false (sym (form_true op h) ∙ e)

-- where the form is true, some value between the bounds satisfies the comparison
module _ (o : TotalOrder) (lo hi k : o.Value) (order : o.leb lo hi ≡ true) where
  pub form_met : (op : Operator) → form o op lo hi k ≡ true → Met o op lo hi k
  form_met Equal h = equal_met o lo hi k order Equal (compared o Equal k k (same o lo hi k order)) h
  form_met NotEqual h = not_equal_met o lo hi k order NotEqual (λ v e. e) h
  form_met Below h = at_least o lo hi k order Below h
  form_met AtMost h = at_least o lo hi k order AtMost h
  form_met Above h = at_greatest o lo hi k order Above h
  form_met AtLeast h = at_greatest o lo hi k order AtLeast h
  form_met Distinct h = not_equal_met o lo hi k order Distinct (λ v e. compared o Distinct v k (tested o NotEqual v k e)) h
  form_met NotDistinct h = equal_met o lo hi k order NotDistinct (compared o NotDistinct k k (same o lo hi k order)) h
