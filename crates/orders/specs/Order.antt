-- A total order as a test with its laws, how two values compare by it, and what each operator asks of them. Assumes nothing.
use Rattle.std.specs.Prelude.{◌≡◌, Bool, not, ◌&&◌}
use Rattle.std.proofs.Math.Path.{refl}
use Rattle.std.proofs.Common.{sym, ◌∙◌, ap, true≢false}
use Rattle.std.proofs.Math.Bool.{true, false, cond, and-eq-true_iff}
use Rattle.std.proofs.lemmas.Bool.{false≢true}
use Rattle.std.specs.declared.cmp.Ordering.{Ordering}
use Rattle.std.specs.declared.cmp.Ordering.TheVariants.{Less, Equal as Same, Greater}
use Rattle.operators.specs.declared.Operator.{Operator}
use Rattle.operators.specs.declared.Operator.TheVariants.{Equal, NotEqual, Below, AtMost, Above, AtLeast, Distinct, NotDistinct}
use Rattle.operators.specs.Operators.{holds, swap_of, turned, swap_means}

pub record TotalOrder : Type 1 where
  pub Value : Type 0
  pub leb : Value → Value → Bool
  pub le_refl : (a : Value) → leb a a ≡ true
  pub le_trans : (a b c : Value) → leb a b ≡ true → leb b c ≡ true → leb a c ≡ true
  pub le_anti : (a b : Value) → leb a b ≡ true → leb b a ≡ true → a ≡ b
  pub le_total : (a b : Value) → leb a b ≡ false → leb b a ≡ true

-- values in the order of their keys
abbrev pub by_key : (o : TotalOrder) (A : Type 0) (key : A → o.Value) → ((a b : A) → key a ≡ key b → a ≡ b) → TotalOrder
by_key o A key inj =
    record {
      Value = A;
      leb = λ a b. o.leb (key a) (key b);
      le_refl = λ a. o.le_refl (key a);
      le_trans = λ a b c. o.le_trans (key a) (key b) (key c);
      le_anti = λ a b e f. inj a b (o.le_anti (key a) (key b) e f);
      le_total = λ a b. o.le_total (key a) (key b);
    }

module _ (o : TotalOrder) where
  abbrev pub ltb : o.Value → o.Value → Bool
  ltb a b = not (o.leb b a)

  abbrev pub eqb : o.Value → o.Value → Bool
  eqb a b = o.leb a b && o.leb b a

  unfoldable pub order_by : o.Value → o.Value → Ordering
  order_by a b = cond (ltb a b) Less (cond (ltb b a) Greater Same)

  -- the operator holds of two values that are there
  abbrev pub compares : Operator → o.Value → o.Value → Bool
  compares op a b = holds op (order_by a b)

  -- the same by tests of the order
  abbrev pub test : Operator → o.Value → o.Value → Bool
  test Equal a b = eqb a b
  test NotEqual a b = not (eqb a b)
  test Below a b = ltb a b
  test AtMost a b = o.leb a b
  test Above a b = ltb b a
  test AtLeast a b = o.leb b a
  test Distinct a b = not (eqb a b)
  test NotDistinct a b = eqb a b

  -- two values compare in one of three ways
  pub by_order : (a b : o.Value) (P : Ordering → Bool → Bool → Type 0) → P Less true false → P Same true true → P Greater false true
      → P (order_by a b) (o.leb a b) (o.leb b a)
  unfolding order_by
  by_order a b P l s g = go (o.leb a b) (o.leb b a) refl refl
    where
      go : (x y : Bool) → o.leb a b ≡ x → o.leb b a ≡ y → P (cond (not y) Less (cond (not x) Greater Same)) x y
      go true true e f = s
      go true false e f = l
      go false true e f = g
      go false false e f = absurd (true≢false (sym (o.le_total a b e) ∙ f))

  pub compares_test : (op : Operator) (a b : o.Value) → compares op a b ≡ test op a b
  compares_test Equal a b = by_order a b (λ r x y. holds Equal r ≡ (x && y)) refl refl refl
  compares_test NotEqual a b = by_order a b (λ r x y. holds NotEqual r ≡ not (x && y)) refl refl refl
  compares_test Below a b = by_order a b (λ r x y. holds Below r ≡ not y) refl refl refl
  compares_test AtMost a b = by_order a b (λ r x y. holds AtMost r ≡ x) refl refl refl
  compares_test Above a b = by_order a b (λ r x y. holds Above r ≡ not x) refl refl refl
  compares_test AtLeast a b = by_order a b (λ r x y. holds AtLeast r ≡ y) refl refl refl
  compares_test Distinct a b = by_order a b (λ r x y. holds Distinct r ≡ not (x && y)) refl refl refl
  compares_test NotDistinct a b = by_order a b (λ r x y. holds NotDistinct r ≡ (x && y)) refl refl refl

  pub order_turned : (a b : o.Value) → order_by b a ≡ turned (order_by a b)
  unfolding order_by
  order_turned a b = by_order a b (λ r x y. cond (not x) Less (cond (not y) Greater Same) ≡ turned r) refl refl refl

  -- an operator means its swap from the other side
  pub compares_swap : (op : Operator) (a b : o.Value) → compares (swap_of op) b a ≡ compares op a b
  compares_swap op a b = ap (holds (swap_of op)) (order_turned a b) ∙ swap_means op (order_by a b)

  pub order_less : (a b : o.Value) → ltb a b ≡ true → order_by a b ≡ Less
  order_less a b = by_order a b (λ r x y. not y ≡ true → r ≡ Less) (λ e. refl) (λ e. absurd (false≢true e)) (λ e. absurd (false≢true e))

  pub order_greater : (a b : o.Value) → ltb b a ≡ true → order_by a b ≡ Greater
  order_greater a b = by_order a b (λ r x y. not x ≡ true → r ≡ Greater) (λ e. absurd (false≢true e)) (λ e. absurd (false≢true e)) (λ e. refl)

  pub order_equal : (a b : o.Value) → order_by a b ≡ Same → a ≡ b
  order_equal a b e =
      let h = (and-eq-true_iff (o.leb a b) (o.leb b a)).0 (sym (compares_test Equal a b) ∙ ap (holds Equal) e) in
      o.le_anti a b h.0 h.1

  pub order_self : (a b : o.Value) → a ≡ b → order_by a b ≡ Same
  unfolding order_by
  order_self a b e = rw (e, o.le_refl b)
