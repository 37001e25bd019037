-- Where a comparison's form, or LIKE's, is false on cells that fit, no row's value satisfies it. Assumes nothing.
use Rattle.std.specs.Prelude.{◌≡◌, Bool, not, ◌&&◌, ◌||◌, ◌⊎◌, List, [], ◌∷◌, ℕ, suc, ◌<◌, ◌≤◌, length, leb, pos}
use Rattle.std.proofs.Math.Path.{refl}
use Rattle.std.proofs.Common.{sym, ◌∙◌, subst, true≢false, leb-true}
use Rattle.std.proofs.Math.Bool.{true, false, and-eq-true_iff}
use Rattle.std.proofs.Math.Logic.{inl, inr, ⊎_elim}
use Rattle.std.proofs.Math.Option.{Option, some, none}
use native.Mathlib.Omega.{arith}
use Rattle.std.proofs.lemmas.Bool.{not-false}
use Rattle.std.specs.declared.cmp.Ordering.{Ordering}
use Rattle.std.specs.declared.cmp.Ordering.TheVariants.{Less, Equal as Same, Greater}
use Rattle.operators.specs.declared.Operator.{Operator}
use Rattle.operators.specs.declared.Operator.TheVariants.{Equal, NotEqual, Below, AtMost, Above, AtLeast, Distinct, NotDistinct}
use Rattle.kleene.specs.declared.Truth.{Truth}
use Rattle.kleene.specs.declared.Truth.TheVariants.{False, Unknown, True}
use Rattle.kleene.specs.Truths.{truth_of, kleene_and, kleene_or}
use Rattle.kleene.specs.TruthLaws.{false_true, unknown_false, unknown_true, truth_true, truth_false, and_false, or_false}
use Rattle.literals.specs.Literals.{Value, null, int, text, truth}
use Rattle.literals.specs.LiteralLaws.{value_type}
use Rattle.text.specs.Utf8.{Utf8}
use Rattle.text.specs.Pattern.{prefix_of}
use Rattle.text.specs.Match.{like_text}
use Rattle.text.specs.Upper.{upper_of}
use Rattle.orders.specs.Order.{compares, compares_test}
use Rattle.orders.specs.Forms.{form}
use Rattle.orders.proofs.Forms.{form_false}
use Rattle.orders.proofs.Likes.{like_form_false}
use Rattle.orders.specs.Instances.{numbers}
use Rattle.orders.specs.Values.{order_of, by_order, compared, is_null, is_same, alike}
use Rattle.orders.specs.ValueLaws.{Kind, textual, Pair, pair_of, by_kind, alike_order}
use Rattle.orders.proofs.ValueLaws.{known_type}
use Rattle.predicate.specs.declared.Column.{Column}
use Rattle.predicate.specs.Meaning.{Row, value_in}
use Rattle.predicate.specs.Rows.{In}
use Rattle.statistics.specs.declared.Statistic.TheVariants.{Least, Greatest, Blanks, Rows}
use Rattle.table.specs.Comparisons.{has_blanks, has_values, comparison_form, bounded_form}
use Rattle.table.specs.Worth.{Cells, worth}
use Rattle.table.specs.Fitting.{one_if, blanks_in, Counts, Bounds, FitCells}

-- ---- blanks and rows

pub blanks_le : (c : Column) (rows : List Row) → blanks_in c rows ≤ length rows
blanks_le c [] = omega arith
blanks_le c (r ∷ rows) = go (is_null (value_in r c)) (blanks_le c rows)
  where
    go : (b : Bool) → blanks_in c rows ≤ length rows → one_if b (blanks_in c rows) ≤ suc (length rows)
    go true h = omega arith
    go false h = omega arith

-- a blank is counted
some_blank : (c : Column) (r : Row) (rows : List Row) → In r rows → is_null (value_in r c) ≡ true → 0 < blanks_in c rows
some_blank c r [] i e = absurd i
some_blank c r (x ∷ rows) (inl q) e = rw (← q, e) (omega arith)
some_blank c r (x ∷ rows) (inr i) e = go (is_null (value_in x c)) (some_blank c r rows i e)
  where
    go : (b : Bool) → 0 < blanks_in c rows → 0 < one_if b (blanks_in c rows)
    go true h = omega arith
    go false h = h

-- and a value is not
some_value : (c : Column) (r : Row) (rows : List Row) → In r rows → is_null (value_in r c) ≡ false → blanks_in c rows < length rows
some_value c r [] i e = absurd i
some_value c r (x ∷ rows) (inl q) e = rw (← q, e) (let h = blanks_le c rows in omega arith)
some_value c r (x ∷ rows) (inr i) e = go (is_null (value_in x c)) (some_value c r rows i e)
  where
    go : (b : Bool) → blanks_in c rows < length rows → one_if b (blanks_in c rows) < suc (length rows)
    go true h = omega arith
    go false h = omega arith

-- a present count is the true one, and an absent one makes no test false
counted : (o : Operator) (a b : Value) (m n : ℕ) → Counts a m → Counts b n → by_order o (order_of a b) ≡ False → compares numbers o (pos m) (pos n) ≡ false
counted o null b m n f g e = unknown_false e
counted o (text bs) b m n f g e = absurd f
counted o (truth t) b m n f g e = absurd f
counted o (int z) null m n f g e = unknown_false e
counted o (int z) (text bs) m n f g e = absurd g
counted o (int z) (truth t) m n f g e = absurd g
counted o (int z) (int y) m n f g e = rw (← f, ← g) (truth_false (compares numbers o z y) e)

same_count : (m n : ℕ) → compares numbers NotEqual (pos m) (pos n) ≡ false → m ≡ n
same_count m n e =
    let h = (and-eq-true_iff (leb m n) (leb n m)).0 (not-false (leb m n && leb n m) (sym (compares_test numbers NotEqual (pos m) (pos n)) ∙ e)) in
    let a = leb-true m n h.0 in
    let b = leb-true n m h.1 in
    omega arith

no_count : (m : ℕ) → compares numbers Above (pos m) (pos 0) ≡ false → m ≡ 0
no_count m e = let a = leb-true m 0 (not-false (leb m 0) (sym (compares_test numbers Above (pos m) (pos 0)) ∙ e)) in omega arith

-- ---- bounds that may be absent

null_is : (v : Value) → is_null v ≡ true → v ≡ null
null_is null e = refl
null_is (int z) e = absurd (true≢false (sym e))
null_is (text bs) e = absurd (true≢false (sym e))
null_is (truth b) e = absurd (true≢false (sym e))

pub order_null : (v : Value) → order_of v null ≡ none
order_null null = refl
order_null (int z) = refl
order_null (text bs) = refl
order_null (truth b) = refl

known : (o : Operator) (v w : Value) (t : Truth) → (t ≡ Unknown → ⊥) → by_order o (order_of v w) ≡ t → (is_null v ≡ false) × (value_type v ≡ value_type w)
known o v w t h e = known_type o v w (λ q. h (sym e ∙ q))

not_unknown : (t : Truth) → t ≡ True → t ≡ Unknown → ⊥
not_unknown t e q = unknown_true (sym q ∙ e)

false_known : (t : Truth) → t ≡ False → t ≡ Unknown → ⊥
false_known t e q = unknown_false (sym q ∙ e)

module _ (k : Kind) (a : k.order.Value) where
  -- a bound of a on one side of it; where it is absent, a stands for it
  record Stand (side : k.order.Value → Bool) (x : Value) : Type 0 where
    bound : k.order.Value
    beside : side bound ≡ true
    told : (o : Operator) (b : k.order.Value) → by_order o (order_of x (k.value b)) ≡ False → compares k.order o bound b ≡ false
    told_first : (o : Operator) (b : k.order.Value) → by_order o (order_of (k.value b) x) ≡ False → compares k.order o b bound ≡ false

  stand : (side : k.order.Value → Bool) (x : Value) → side a ≡ true
      → (is_null x ≡ false → (b : k.order.Value) × (x ≡ k.value b) × (side b ≡ true)) → Stand side x
  stand side x here there = go (is_null x) refl
    where
      go : (n : Bool) → is_null x ≡ n → Stand side x
      go true q =
          record {
            bound = a;
            beside = here;
            told = λ o b e. unknown_false (rw (null_is x q) at e);
            told_first = λ o b e. unknown_false (rw (null_is x q, order_null (k.value b)) at e);
          }
      go false q =
          let h = there q in
          record {
            bound = h.0;
            beside = h.2;
            told = λ o b e. truth_false _ (sym (by_kind k o h.0 b) ∙ (rw h.1 at e));
            told_first = λ o b e. truth_false _ (sym (by_kind k o b h.0) ∙ (rw h.1 at e));
          }

  low : (x : Value) → Bounds x (k.value a) → Stand (λ b. k.order.leb b a) x
  low x h =
      stand (λ b. k.order.leb b a) x (k.order.le_refl a) λ q.
      let e = h q (k.present a) in
      let b = k.back x ((known_type AtMost x (k.value a) (not_unknown _ e)).1 ∙ k.typed a) in
      (b.0, b.1, sym (compares_test k.order AtMost b.0 a) ∙ truth_true _ (sym (by_kind k AtMost b.0 a) ∙ (rw b.1 at e)))

  high : (x : Value) → Bounds (k.value a) x → Stand (λ b. k.order.leb a b) x
  high x h =
      stand (λ b. k.order.leb a b) x (k.order.le_refl a) λ q.
      let e = h (k.present a) q in
      let b = k.back x (sym (known_type AtMost (k.value a) x (not_unknown _ e)).1 ∙ k.typed a) in
      (b.0, b.1, sym (compares_test k.order AtMost a b.0) ∙ truth_true _ (sym (by_kind k AtMost a b.0) ∙ (rw b.1 at e)))

-- ---- the forms without the blanks test

abbrev inner : Operator → Value → Value → Value → Truth
inner Equal lo hi k = kleene_and (compared AtMost lo k) (compared AtMost k hi)
inner NotEqual lo hi k = kleene_or (compared NotEqual lo k) (compared NotEqual k hi)
inner Below lo hi k = compared Below lo k
inner AtMost lo hi k = compared AtMost lo k
inner Above lo hi k = compared Above hi k
inner AtLeast lo hi k = compared AtLeast hi k
inner Distinct lo hi k = kleene_or (compared NotEqual lo k) (compared NotEqual k hi)
inner NotDistinct lo hi k = kleene_and (compared AtMost lo k) (compared AtMost k hi)

either_false : (x y : Bool) → (x ≡ false) ⊎ (y ≡ false) → (x && y) ≡ false
either_false x y (inl e) = rw e
either_false true y (inr e) = e
either_false false y (inr e) = refl

neither_true : (x y : Bool) → x ≡ false → y ≡ false → (x || y) ≡ false
neither_true x y e f = rw (e, f)

-- a form that is false on the cells is false on the bounds
inner_false : (k : Kind) (a b : k.order.Value) (lo hi : Value) (l : Stand k a (λ x. k.order.leb x a) lo) (h : Stand k a (λ x. k.order.leb a x) hi) (o : Operator)
    → inner o lo hi (k.value b) ≡ False → form k.order o l.bound h.bound b ≡ false
inner_false k a b lo hi l h Equal e =
    either_false _ _ (⊎_elim (λ p. inl (l.told AtMost b p)) (λ p. inr (h.told_first AtMost b p)) (and_false _ _ e))
inner_false k a b lo hi l h NotEqual e =
    let p = or_false _ _ e in neither_true _ _ (l.told NotEqual b p.0) (h.told_first NotEqual b p.1)
inner_false k a b lo hi l h Below e = l.told Below b e
inner_false k a b lo hi l h AtMost e = l.told AtMost b e
inner_false k a b lo hi l h Above e = h.told Above b e
inner_false k a b lo hi l h AtLeast e = h.told AtLeast b e
inner_false k a b lo hi l h Distinct e =
    let p = or_false _ _ e in neither_true _ _ (l.told NotEqual b p.0) (h.told_first NotEqual b p.1)
inner_false k a b lo hi l h NotDistinct e =
    either_false _ _ (⊎_elim (λ p. inl (l.told AtMost b p)) (λ p. inr (h.told_first AtMost b p)) (and_false _ _ e))

-- no value between the bounds satisfies the comparison
kind_sound : (k : Kind) (a b : k.order.Value) (o : Operator) (lo hi : Value) → Bounds lo (k.value a) → Bounds (k.value a) hi
    → inner o lo hi (k.value b) ≡ False → by_order o (order_of (k.value a) (k.value b)) ≡ True → ⊥
kind_sound k a b o lo hi low-a a-high e h =
    let l = low k a lo low-a in
    let u = high k a hi a-high in
    form_false k.order l.bound u.bound b a l.beside u.beside o (inner_false k a b lo hi l u o e)
    (truth_true _ (sym (by_kind k o a b) ∙ h))

inner_sound : (o : Operator) (lo hi v k : Value) → Bounds lo v → Bounds v hi → inner o lo hi k ≡ False → by_order o (order_of v k) ≡ True → ⊥
inner_sound o lo hi v k low-v v_high e h =
    let n = known_type o v k (not_unknown _ h) in
    let p = pair_of v k n.0 n.1 in
    kind_sound p.kind p.left p.right o lo hi (subst (λ x. Bounds lo x) p.left_is low-v) (subst (λ x. Bounds x hi) p.left_is v_high)
    (subst (λ x. inner o lo hi x ≡ False) p.right_is e)
    (subst (λ x. by_order o (order_of (p.kind.value p.left) x) ≡ True) p.right_is (subst (λ x. by_order o (order_of x k) ≡ True) p.left_is h))

-- ---- alike, and not

-- values of one kind compare
pair_order : (v k : Value) → Pair v k → order_of v k ≡ none → ⊥
pair_order v k p e =
    let a = subst (λ x. order_of x k ≡ none) p.left_is e in
    let b = subst (λ x. order_of (p.kind.value p.left) x ≡ none) p.right_is a in
    let q = sym (p.kind.same p.left p.right) ∙ b in
    let z : ◌≡◌ {A = ℕ} 0 1 = cc in
    omega arith

unlike : (x : Option Ordering) → (x ≡ none → ⊥) → truth_of (not (is_same x)) ≡ True → by_order NotEqual x ≡ True
unlike none h e = absurd (h refl)
unlike (some Less) h e = refl
unlike (some Same) h e = false_true e
unlike (some Greater) h e = refl

equals : (x : Option Ordering) → truth_of (is_same x) ≡ True → by_order Equal x ≡ True
equals none e = false_true e
equals (some Less) e = false_true e
equals (some Same) e = refl
equals (some Greater) e = false_true e

-- ---- with the blanks test: a container's cells, and one of its rows

module _ (cells : Cells) (rows : List Row) (fit : FitCells cells rows) (r : Row) (i : In r rows) (c : Column) where
  -- blanks ≠ rows is false only where every value is blank
  pub values_gone : worth cells (has_values c) ≡ False → is_null (value_in r c) ≡ false → ⊥
  unfolding worth
  values_gone e h =
      let q = same_count (blanks_in c rows) (length rows) (counted NotEqual (cells (Blanks c)) (cells Rows) _ _ (fit.blanks c) fit.count e) in
      let p = some_value c r rows i h in
      omega arith

  -- blanks > 0 is false only where no value is
  pub blanks_gone : worth cells (has_blanks c) ≡ False → is_null (value_in r c) ≡ true → ⊥
  unfolding worth
  blanks_gone e h =
      let q = no_count (blanks_in c rows) (counted Above (cells (Blanks c)) (int (pos 0)) _ _ (fit.blanks c) refl e) in
      let p = some_blank c r rows i h in
      omega arith

  bounded : (o : Operator) (k : Value) → inner o (cells (Least c)) (cells (Greatest c)) k ≡ False → by_order o (order_of (value_in r c) k) ≡ True → ⊥
  bounded o k e h = inner_sound o (cells (Least c)) (cells (Greatest c)) (value_in r c) k (fit.least c r i) (fit.greatest c r i) e h

  -- a wrapped form
  wrapped_sound : (o : Operator) (k : Value) → kleene_and (worth cells (has_values c)) (inner o (cells (Least c)) (cells (Greatest c)) k) ≡ False
      → by_order o (order_of (value_in r c) k) ≡ True → ⊥
  wrapped_sound o k e h =
      ⊎_elim (λ p. values_gone p (known_type o (value_in r c) k (not_unknown _ h)).0) (λ p. bounded o k p h) (and_false _ _ e)

  -- distinct from a literal that is there: the least value has the literal's type, so the row's value has
  unequal_sound : (k : Value) → is_null (value_in r c) ≡ false → inner NotEqual (cells (Least c)) (cells (Greatest c)) k ≡ False
      → truth_of (not (alike (value_in r c) k)) ≡ True → ⊥
  unequal_sound k q e h =
      let n = (or_false (compared NotEqual (cells (Least c)) k) (compared NotEqual k (cells (Greatest c))) e).0 in
      let lo = known_type NotEqual (cells (Least c)) k (false_known (compared NotEqual (cells (Least c)) k) n) in
      let m = fit.least c r i lo.0 q in
      let t = known_type AtMost (cells (Least c)) (value_in r c) (not_unknown (compared AtMost (cells (Least c)) (value_in r c)) m) in
      let p = pair_of (value_in r c) k q (sym t.1 ∙ lo.1) in
      bounded NotEqual k e (unlike (order_of (value_in r c) k) (pair_order (value_in r c) k p) (rw (alike_order (value_in r c) k q) at h))

  distinct_sound : (k : Value) → kleene_or (worth cells (has_blanks c)) (inner NotEqual (cells (Least c)) (cells (Greatest c)) k) ≡ False
      → truth_of (not (alike (value_in r c) k)) ≡ True → ⊥
  distinct_sound k e h = go (is_null (value_in r c)) refl (or_false _ _ e)
    where
      go : (n : Bool) → is_null (value_in r c) ≡ n
          → (worth cells (has_blanks c) ≡ False) × (inner NotEqual (cells (Least c)) (cells (Greatest c)) k ≡ False) → ⊥
      go true q p = blanks_gone p.0 q
      go false q p = unequal_sound k q p.1 h

  -- not distinct from a literal that is there
  not_distinct_sound : (k : Value) → is_null k ≡ false
      → kleene_and (worth cells (has_values c)) (inner Equal (cells (Least c)) (cells (Greatest c)) k) ≡ False
      → truth_of (alike (value_in r c) k) ≡ True → ⊥
  not_distinct_sound k there e h = go (is_null (value_in r c)) refl
    where
      go : (n : Bool) → is_null (value_in r c) ≡ n → ⊥
      go true q = true≢false (sym (truth_true _ (rw (null_is (value_in r c) q) at h)) ∙ there)
      go false q = wrapped_sound Equal k e (equals (order_of (value_in r c) k) (rw (alike_order (value_in r c) k q) at h))

  -- a comparison's form
  pub comparison_sound : (o : Operator) (k : Value) → worth cells (comparison_form c o k) ≡ False → compared o (value_in r c) k ≡ True → ⊥
  unfolding worth
  comparison_sound Equal k e h = wrapped_sound Equal k e h
  comparison_sound NotEqual k e h = wrapped_sound NotEqual k e h
  comparison_sound Below k e h = wrapped_sound Below k e h
  comparison_sound AtMost k e h = wrapped_sound AtMost k e h
  comparison_sound Above k e h = wrapped_sound Above k e h
  comparison_sound AtLeast k e h = wrapped_sound AtLeast k e h
  comparison_sound Distinct null e h = go (is_null (value_in r c)) refl
    where
      go : (n : Bool) → is_null (value_in r c) ≡ n → ⊥
      go true q = false_true (rw (null_is (value_in r c) q) at h)
      go false q = values_gone e q
  comparison_sound Distinct (int z) e h = distinct_sound (int z) e h
  comparison_sound Distinct (text bs) e h = distinct_sound (text bs) e h
  comparison_sound Distinct (truth b) e h = distinct_sound (truth b) e h
  comparison_sound NotDistinct null e h = go (is_null (value_in r c)) refl
    where
      go : (n : Bool) → is_null (value_in r c) ≡ n → ⊥
      go true q = blanks_gone e q
      go false q = false_true (rw (alike_order (value_in r c) null q, order_null (value_in r c)) at h)
  comparison_sound NotDistinct (int z) e h = not_distinct_sound (int z) refl e h
  comparison_sound NotDistinct (text bs) e h = not_distinct_sound (text bs) refl e h
  comparison_sound NotDistinct (truth b) e h = not_distinct_sound (truth b) refl e h

  -- LIKE's form
  pub like_sound : (s p u : List ℕ) → value_in r c ≡ text s → Utf8 s → Utf8 p → upper_of p ≡ some u
      → worth cells (bounded_form c (prefix_of false p) (some u)) ≡ False → like_text p s ≡ true → ⊥
  unfolding worth
  like_sound s p u q us up b e h =
      let l = low textual s (cells (Least c)) (subst (λ x. Bounds (cells (Least c)) x) q (fit.least c r i)) in
      let t = high textual s (cells (Greatest c)) (subst (λ x. Bounds x (cells (Greatest c))) q (fit.greatest c r i)) in
      ⊎_elim (λ x. values_gone x (rw q))
      (λ x.
      like_form_false p s l.bound t.bound u up us l.beside t.beside b
      (either_false _ _ (⊎_elim (λ y. inl (l.told AtMost u y)) (λ y. inr (t.told_first AtMost (prefix_of false p) y)) (and_false _ _ x)))
      h)
      (and_false _ _ e)
