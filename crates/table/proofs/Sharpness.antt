-- Nothing better is possible for one integer comparison: where its table is not false, some rows that fit the cells hold a match.
-- Assumes nothing.
use Rattle.std.specs.Prelude.{◌≡◌, Bool, ◌&&◌, ◌||◌, ◌⊎◌, List, [], ◌∷◌, ℕ, zero, suc, ◌+◌, ◌-◌, ◌<◌, ◌≤◌, length, get_or, ℤ, negsuc}
use Rattle.std.proofs.Math.Path.{refl}
use Rattle.std.proofs.Common.{sym, ◌∙◌, ap, subst, true≢false}
use Rattle.std.proofs.Math.Bool.{true, false, and-eq-true_iff}
use Rattle.std.proofs.Math.Logic.{inl, inr, ⊎_elim}
use native.Mathlib.Omega.{arith}
use Rattle.std.proofs.Math.Dec.{eqb, leb}
use Rattle.std.proofs.Math.IntN.{pos}
use Rattle.std.specs.Int.Signed.{le_z}
use borrow.Author.Tests.{eqb-true, eqb-false, leb-true, leb-false, le-leb, not-true, not-false}
use Rattle.operators.specs.declared.Operator.{Operator}
use Rattle.operators.specs.declared.Operator.TheVariants.{Equal, NotEqual, Below, AtMost, Above, AtLeast, Distinct, NotDistinct}
use Rattle.kleene.specs.declared.Truth.{Truth}
use Rattle.kleene.specs.declared.Truth.TheVariants.{False, True}
use Rattle.kleene.specs.Truths.{truth_of, kleene_and, kleene_or}
use Rattle.literals.specs.Signed.{Fits64}
use Rattle.literals.specs.Literals.{Value, null, int}
use Rattle.orders.specs.Order.{compares, compares_test}
use Rattle.orders.specs.Forms.{form}
use Rattle.orders.proofs.Forms.{form_met}
use Rattle.orders.specs.Instances.{numbers}
use Rattle.orders.specs.Values.{is_null, compared}
use Rattle.orders.proofs.ValueLaws.{by_compared}
use Rattle.predicate.specs.declared.Column.{Column}
use Rattle.predicate.specs.Meaning.{Row, value_in}
use Rattle.predicate.specs.Rows.{In}
use Rattle.statistics.specs.declared.Statistic.TheVariants.{Least, Greatest, Blanks, Rows}
use Rattle.table.specs.Comparisons.{comparison_form, has_values, has_blanks}
use Rattle.table.specs.Worth.{Cells, worth}
use Rattle.table.specs.Fitting.{blanks_in, Counts, Bounds, FitCells}

-- ---- rows with one column filled

-- a value at a place, blanks before it
filled : ℕ → Value → Row
filled zero v = v ∷ []
filled (suc n) v = null ∷ filled n v

filled_at : (n : ℕ) (v : Value) → get_or (filled n v) n null ≡ v
unfolding filled
filled_at zero v = refl
filled_at (suc n) v = filled_at n v

filled_off : (n m : ℕ) (v : Value) → (m ≡ n → ⊥) → get_or (filled n v) m null ≡ null
unfolding filled
filled_off zero zero v h = absurd (h refl)
filled_off zero (suc m) v h = refl
filled_off (suc n) zero v h = refl
filled_off (suc n) (suc m) v h = filled_off n m v (λ e. h (ap suc e))

-- so many blanks in a column, and so many rows with a value there
rows_of : ℕ → Value → ℕ → ℕ → List Row
rows_of c v zero zero = []
rows_of c v zero (suc m) = filled c v ∷ rows_of c v zero m
rows_of c v (suc b) m = filled c null ∷ rows_of c v b m

length_rows : (c : ℕ) (v : Value) (b m : ℕ) → length (rows_of c v b m) ≡ b + m
unfolding rows_of
length_rows c v zero zero = refl
length_rows c v zero (suc m) = let h = length_rows c v zero m in omega arith
length_rows c v (suc b) m = let h = length_rows c v b m in omega arith

row_is : (c : ℕ) (v : Value) (b m : ℕ) (r : Row) → In r (rows_of c v b m) → (r ≡ filled c null) ⊎ (r ≡ filled c v)
unfolding rows_of
row_is c v zero zero r i = absurd i
row_is c v zero (suc m) r (inl e) = inr e
row_is c v zero (suc m) r (inr i) = row_is c v zero m r i
row_is c v (suc b) m r (inl e) = inl e
row_is c v (suc b) m r (inr i) = row_is c v b m r i

has_blank : (c : ℕ) (v : Value) (b m : ℕ) → 0 < b → In (filled c null) (rows_of c v b m)
unfolding rows_of
has_blank c v zero m h = absurd (omega arith)
has_blank c v (suc b) m h = inl refl

has_value : (c : ℕ) (v : Value) (b m : ℕ) → 0 < m → In (filled c v) (rows_of c v b m)
unfolding rows_of
has_value c v zero zero h = absurd (omega arith)
has_value c v zero (suc m) h = inl refl
has_value c v (suc b) m h = inr (has_value c v b m h)

blanks_rows : (c : Column) (v : Value) (b m : ℕ) → is_null v ≡ false → blanks_in c (rows_of c.0 v b m) ≡ b
unfolding rows_of
blanks_rows c v zero zero h = refl
blanks_rows c v zero (suc m) h = rw (filled_at c.0 v, h) (blanks_rows c v zero m h)
blanks_rows c v (suc b) m h = rw (filled_at c.0 null) (ap suc (blanks_rows c v b m h))

-- ---- truth values that are known

truth_and : (x y : Bool) → kleene_and (truth_of x) (truth_of y) ≡ truth_of (x && y)
truth_and true true = refl
truth_and true false = refl
truth_and false true = refl
truth_and false false = refl

truth_or : (x y : Bool) → kleene_or (truth_of x) (truth_of y) ≡ truth_of (x || y)
truth_or true true = refl
truth_or true false = refl
truth_or false true = refl
truth_or false false = refl

is_true : (x : Bool) → (truth_of x ≡ False → ⊥) → x ≡ true
is_true true h = refl
is_true false h = absurd (h refl)

both_true : (x y : Bool) → (truth_of (x && y) ≡ False → ⊥) → (x ≡ true) × (y ≡ true)
both_true true y h = (refl, is_true y h)
both_true false y h = absurd (h refl)

either_true : (x y : Bool) → (truth_of (x || y) ≡ False → ⊥) → (x ≡ true) ⊎ (y ≡ true)
either_true true y h = inl refl
either_true false y h = inr (is_true y h)

-- ---- the summary of one column

-- counts that are there and possible, bounds in order, each there or absent; no other column has a cell
pub record Summary (c : Column) (cells : Cells) : Type 0 where
  pub blanks : ℕ
  pub rows : ℕ
  pub least : ℤ
  pub greatest : ℤ
  pub blanks_is : cells (Blanks c) ≡ int (pos blanks)
  pub rows_is : cells Rows ≡ int (pos rows)
  pub least_is : (cells (Least c) ≡ int least) ⊎ (cells (Least c) ≡ null)
  pub greatest_is : (cells (Greatest c) ≡ int greatest) ⊎ (cells (Greatest c) ≡ null)
  pub fewer : blanks ≤ rows
  pub some_rows : 0 < rows
  pub ordered : le_z least greatest ≡ true
  pub least_fits : Fits64 least
  pub greatest_fits : Fits64 greatest
  pub others : (d : Column) → (d.0 ≡ c.0 → ⊥) → (cells (Least d) ≡ null) × (cells (Greatest d) ≡ null) × (cells (Blanks d) ≡ null)

-- the bounds that an operator's form asks for are there
abbrev pub Asked : Operator → Column → (cells : Cells) → ℤ → ℤ → Type 0
Asked Equal c cells lo hi = (cells (Least c) ≡ int lo) × (cells (Greatest c) ≡ int hi)
Asked NotEqual c cells lo hi = (cells (Least c) ≡ int lo) × (cells (Greatest c) ≡ int hi)
Asked Below c cells lo hi = cells (Least c) ≡ int lo
Asked AtMost c cells lo hi = cells (Least c) ≡ int lo
Asked Above c cells lo hi = cells (Greatest c) ≡ int hi
Asked AtLeast c cells lo hi = cells (Greatest c) ≡ int hi
Asked Distinct c cells lo hi = (cells (Least c) ≡ int lo) × (cells (Greatest c) ≡ int hi)
Asked NotDistinct c cells lo hi = (cells (Least c) ≡ int lo) × (cells (Greatest c) ≡ int hi)

-- a blank, or an integer of 64 bits in the column
abbrev pub Held : Column → Row → Column → Type 0
Held c r d = (value_in r d ≡ null) ⊎ ((d.0 ≡ c.0) × ((z : ℤ) × (value_in r d ≡ int z) × Fits64 z))

-- some rows fit the cells, and one of them satisfies the comparison
pub record Match (c : Column) (cells : Cells) (o : Operator) (k : Value) : Type 0 where
  pub rows : List Row
  pub fit : FitCells cells rows
  pub held : (r : Row) → In r rows → (d : Column) → Held c r d
  pub row : Row
  pub in_rows : In row rows
  pub true_of : compared o (value_in row c) k ≡ True

-- what lies between integers of 64 bits has 64 bits
between : (a z b : ℤ) → le_z a z ≡ true → le_z z b ≡ true → Fits64 a → Fits64 b → Fits64 z
between a (pos n) (pos m) h k f g = let q = leb-true n m k in omega arith
between a (pos n) (negsuc m) h k f g = absurd (true≢false (sym k))
between (negsuc m) (negsuc n) b h k f g = let q = leb-true n m h in omega arith
between (pos m) (negsuc n) b h k f g = absurd (true≢false (sym h))

at_most : (a b : ℤ) → le_z a b ≡ true → compared AtMost (int a) (int b) ≡ True
at_most a b e = ap truth_of (compares_test numbers AtMost a b ∙ e)

bounds : (x v : Value) (a b : ℤ) → x ≡ int a → v ≡ int b → le_z a b ≡ true → Bounds x v
bounds x v a b e f h p q = rw (e, f) (at_most a b h)

absent_low : (x v : Value) → x ≡ null → Bounds x v
absent_low x v e p q = absurd (true≢false (rw e at p))

absent_high : (v x : Value) → x ≡ null → Bounds v x
absent_high v x e p q = absurd (true≢false (rw e at q))

module _ (c : Column) (cells : Cells) (s : Summary c cells) where
  -- ---- rows that fit

  module _ (z : ℤ) (low : le_z s.least z ≡ true) (high : le_z z s.greatest ≡ true) where
    fitting : List Row
    fitting = rows_of c.0 (int z) s.blanks (s.rows - s.blanks)

    fit_least : (r : Row) → In r fitting → Bounds (cells (Least c)) (value_in r c)
    unfolding fitting
    fit_least r i = ⊎_elim blank value (row_is c.0 (int z) s.blanks (s.rows - s.blanks) r i)
      where
        blank : r ≡ filled c.0 null → Bounds (cells (Least c)) (value_in r c)
        blank e = absent_high (cells (Least c)) (value_in r c) (rw e (filled_at c.0 null))

        value : r ≡ filled c.0 (int z) → Bounds (cells (Least c)) (value_in r c)
        value e =
            ⊎_elim (λ q. bounds (cells (Least c)) (value_in r c) s.least z q (rw e (filled_at c.0 (int z))) low)
            (λ q. absent_low (cells (Least c)) (value_in r c) q) s.least_is

    fit_greatest : (r : Row) → In r fitting → Bounds (value_in r c) (cells (Greatest c))
    unfolding fitting
    fit_greatest r i = ⊎_elim blank value (row_is c.0 (int z) s.blanks (s.rows - s.blanks) r i)
      where
        blank : r ≡ filled c.0 null → Bounds (value_in r c) (cells (Greatest c))
        blank e = absent_low (value_in r c) (cells (Greatest c)) (rw e (filled_at c.0 null))

        value : r ≡ filled c.0 (int z) → Bounds (value_in r c) (cells (Greatest c))
        value e =
            ⊎_elim (λ q. bounds (value_in r c) (cells (Greatest c)) z s.greatest (rw e (filled_at c.0 (int z))) q high)
            (λ q. absent_high (value_in r c) (cells (Greatest c)) q) s.greatest_is

    -- what holds of this column, and of those with no cells, holds of every column
    by_column : (P : Column → Type 0) → P c → ((d : Column) → (d.0 ≡ c.0 → ⊥) → P d) → (d : Column) → P d
    by_column P here off d = go (eqb d.0 c.0) refl
      where
        go : (b : Bool) → eqb d.0 c.0 ≡ b → P d
        go true e = subst P (ap (λ n. record { 0 = n }) (sym (eqb-true d.0 c.0 e))) here
        go false e = off d (eqb-false d.0 c.0 e)

    fits : FitCells cells fitting
    unfolding fitting
    fits =
        record {
          count = rw (s.rows_is, length_rows c.0 (int z) s.blanks (s.rows - s.blanks)) (ap pos (let h = s.fewer in omega arith));
          blanks =
              by_column (λ d. Counts (cells (Blanks d)) (blanks_in d fitting))
              (rw s.blanks_is (ap pos (sym (blanks_rows c (int z) s.blanks (s.rows - s.blanks) refl)))) (λ d h. rw (s.others d h).2 tt);
          least =
              by_column (λ d. (r : Row) → In r fitting → Bounds (cells (Least d)) (value_in r d)) fit_least (λ d h r i. absent_low (cells (Least d)) (value_in r d) (s.others d h).0);
          greatest =
              by_column (λ d. (r : Row) → In r fitting → Bounds (value_in r d) (cells (Greatest d))) fit_greatest (λ d h r i. absent_high (value_in r d) (cells (Greatest d)) (s.others d h).1);
        }

    holds_held : (r : Row) → In r fitting → (d : Column) → Held c r d
    unfolding fitting
    holds_held r i d = ⊎_elim (λ e. inl (blank e (eqb d.0 c.0) refl)) (λ e. value e (eqb d.0 c.0) refl) (row_is c.0 (int z) s.blanks (s.rows - s.blanks) r i)
      where
        blank : r ≡ filled c.0 null → (b : Bool) → eqb d.0 c.0 ≡ b → value_in r d ≡ null
        blank e true q = rw (e, eqb-true d.0 c.0 q) (filled_at c.0 null)
        blank e false q = rw e (filled_off c.0 d.0 null (eqb-false d.0 c.0 q))

        value : r ≡ filled c.0 (int z) → (b : Bool) → eqb d.0 c.0 ≡ b
            → (value_in r d ≡ null) ⊎ ((d.0 ≡ c.0) × ((z : ℤ) × (value_in r d ≡ int z) × Fits64 z))
        value e true q =
            inr
            (eqb-true d.0 c.0 q, (z, rw (e, eqb-true d.0 c.0 q) (filled_at c.0 (int z)), between s.least z s.greatest low high s.least_fits s.greatest_fits))
        value e false q = inl (rw e (filled_off c.0 d.0 (int z) (eqb-false d.0 c.0 q)))

    -- a row with the value, where not every row is blank
    by_value : (o : Operator) (k : Value) → s.blanks < s.rows → compared o (int z) k ≡ True → Match c cells o k
    unfolding fitting
    by_value o k h e =
        record {
          rows = fitting;
          fit = fits;
          held = holds_held;
          row = filled c.0 (int z);
          in_rows = has_value c.0 (int z) s.blanks (s.rows - s.blanks) (omega arith);
          true_of = rw (filled_at c.0 (int z)) e;
        }

    -- a blank row, where there is one
    by_blank : (o : Operator) (k : Value) → 0 < s.blanks → compared o null k ≡ True → Match c cells o k
    unfolding fitting
    by_blank o k h e =
        record {
          rows = fitting;
          fit = fits;
          held = holds_held;
          row = filled c.0 null;
          in_rows = has_blank c.0 (int z) s.blanks (s.rows - s.blanks) h;
          true_of = rw (filled_at c.0 null) e;
        }

  -- ---- what the table says

  -- blanks ≠ rows, as a test
  some_values : Bool
  some_values = compares numbers NotEqual (pos s.blanks) (pos s.rows)

  values_worth : worth cells (has_values c) ≡ truth_of some_values
  unfolding worth some_values
  values_worth = rw (s.blanks_is, s.rows_is)

  blanks_worth : worth cells (has_blanks c) ≡ truth_of (compares numbers Above (pos s.blanks) (pos 0))
  unfolding worth
  blanks_worth = rw s.blanks_is

  values_there : some_values ≡ true → s.blanks < s.rows
  unfolding some_values
  values_there e =
      let f = s.fewer in
      let h = not-true (leb s.blanks s.rows && leb s.rows s.blanks) (sym (compares_test numbers NotEqual (pos s.blanks) (pos s.rows)) ∙ e) in
      let q = leb-false s.rows s.blanks (rw (le-leb s.blanks s.rows f) at h) in
      omega arith

  blanks_there : compares numbers Above (pos s.blanks) (pos 0) ≡ true → 0 < s.blanks
  blanks_there e =
      let q = leb-false s.blanks 0 (not-true (leb s.blanks 0) (sym (compares_test numbers Above (pos s.blanks) (pos 0)) ∙ e)) in omega arith

  -- a wrapped form that is not false is met by a value between the bounds
  wrapped_met : (o : Operator) (k : ℤ) (inner : Truth) → inner ≡ truth_of (form numbers o s.least s.greatest k)
      → ((v : ℤ) → compares numbers o v k ≡ true → compared o (int v) (int k) ≡ True)
      → (kleene_and (worth cells (has_values c)) inner ≡ False → ⊥) → Match c cells o (int k)
  wrapped_met o k inner e says h =
      let b = both_true some_values (form numbers o s.least s.greatest k) (λ q. h (rw (values_worth, e) (truth_and some_values (form numbers o s.least s.greatest k) ∙ q))) in
      let m = form_met numbers s.least s.greatest k s.ordered o b.1 in
      by_value m.value m.low m.high o (int k) (values_there b.0) (says m.value m.meets)

  -- least ≤ lit AND lit ≤ greatest, and least ≠ lit OR lit ≠ greatest, on bounds that are there
  equal_worth : (k : ℤ) → cells (Least c) ≡ int s.least → cells (Greatest c) ≡ int s.greatest
      → kleene_and (compared AtMost (cells (Least c)) (int k)) (compared AtMost (int k) (cells (Greatest c))) ≡ truth_of (form numbers Equal s.least s.greatest k)
  equal_worth k e f = rw (e, f) (truth_and (compares numbers AtMost s.least k) (compares numbers AtMost k s.greatest))

  unequal_worth : (k : ℤ) → cells (Least c) ≡ int s.least → cells (Greatest c) ≡ int s.greatest
      → kleene_or (compared NotEqual (cells (Least c)) (int k)) (compared NotEqual (int k) (cells (Greatest c))) ≡ truth_of (form numbers NotEqual s.least s.greatest k)
  unequal_worth k e f = rw (e, f) (truth_or (compares numbers NotEqual s.least k) (compares numbers NotEqual k s.greatest))

  -- where every row is blank, there is a blank row
  blank_or_value : (some_values ≡ true) ⊎ (0 < s.blanks)
  unfolding some_values
  blank_or_value = go (compares numbers NotEqual (pos s.blanks) (pos s.rows)) refl
    where
      go : (b : Bool) → compares numbers NotEqual (pos s.blanks) (pos s.rows) ≡ b → (b ≡ true) ⊎ (0 < s.blanks)
      go true e = inl refl
      go false e =
          let h = not-false (leb s.blanks s.rows && leb s.rows s.blanks) (sym (compares_test numbers NotEqual (pos s.blanks) (pos s.rows)) ∙ e) in
          let q = leb-true s.rows s.blanks ((and-eq-true_iff (leb s.blanks s.rows) (leb s.rows s.blanks)).0 h).1 in
          let p = s.some_rows in
          inr (omega arith)

  any_blank : (o : Operator) (k : Value) → 0 < s.blanks → compared o null k ≡ True → Match c cells o k
  any_blank o k h e = by_blank s.least (numbers.le_refl s.least) s.ordered o k h e

  any_value : (o : Operator) (k : Value) → some_values ≡ true → compared o (int s.least) k ≡ True → Match c cells o k
  any_value o k h e = by_value s.least (numbers.le_refl s.least) s.ordered o k (values_there h) e

  by_order : (o : Operator) (k v : ℤ) → compares numbers o v k ≡ true → compared o (int v) (int k) ≡ True
  by_order o k v e = by_compared o (int v) (int k) (ap truth_of e)

  distinct_met : (k : ℤ) → Asked Distinct c cells s.least s.greatest
      → (kleene_or (worth cells (has_blanks c)) (kleene_or (compared NotEqual (cells (Least c)) (int k)) (compared NotEqual (int k) (cells (Greatest c)))) ≡ False → ⊥)
      → Match c cells Distinct (int k)
  distinct_met k a h =
      ⊎_elim (λ e. any_blank Distinct (int k) (blanks_there e) refl)
      (λ e.
      let m = form_met numbers s.least s.greatest k s.ordered Distinct e in
      ⊎_elim (λ p. by_value m.value m.low m.high Distinct (int k) (values_there p) (by_order Distinct k m.value m.meets))
      (λ p. any_blank Distinct (int k) p refl) blank_or_value)
      (either_true (compares numbers Above (pos s.blanks) (pos 0)) (form numbers NotEqual s.least s.greatest k)
      (λ q. h (rw (blanks_worth, unequal_worth k a.0 a.1) (truth_or (compares numbers Above (pos s.blanks) (pos 0)) (form numbers NotEqual s.least s.greatest k) ∙ q))))

  -- ---- the theorem

  -- against an integer
  pub sharp : (o : Operator) (k : ℤ) → Asked o c cells s.least s.greatest → (worth cells (comparison_form c o (int k)) ≡ False → ⊥)
      → Match c cells o (int k)
  unfolding worth
  sharp Equal k a h = wrapped_met Equal k _ (equal_worth k a.0 a.1) (by_order Equal k) h
  sharp NotEqual k a h = wrapped_met NotEqual k _ (unequal_worth k a.0 a.1) (by_order NotEqual k) h
  sharp Below k a h = wrapped_met Below k (compared Below (cells (Least c)) (int k)) (rw a) (by_order Below k) h
  sharp AtMost k a h = wrapped_met AtMost k (compared AtMost (cells (Least c)) (int k)) (rw a) (by_order AtMost k) h
  sharp Above k a h = wrapped_met Above k (compared Above (cells (Greatest c)) (int k)) (rw a) (by_order Above k) h
  sharp AtLeast k a h = wrapped_met AtLeast k (compared AtLeast (cells (Greatest c)) (int k)) (rw a) (by_order AtLeast k) h
  sharp Distinct k a h = distinct_met k a h
  sharp NotDistinct k a h = wrapped_met NotDistinct k _ (equal_worth k a.0 a.1) (by_order NotDistinct k) h

  -- a distinct-from against null
  pub sharp_distinct : (worth cells (comparison_form c Distinct null) ≡ False → ⊥) → Match c cells Distinct null
  sharp_distinct h = any_value Distinct null (is_true some_values (λ q. h (values_worth ∙ q))) refl

  pub sharp_not_distinct : (worth cells (comparison_form c NotDistinct null) ≡ False → ⊥) → Match c cells NotDistinct null
  sharp_not_distinct h =
      any_blank NotDistinct null (blanks_there (is_true (compares numbers Above (pos s.blanks) (pos 0)) (λ q. h (blanks_worth ∙ q)))) refl
