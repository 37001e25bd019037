-- The grid column by column, which says the same as row by row. Assumes nothing.
use Rattle.std.specs.Prelude.{◌≡◌, Bool, true, false, not, ◌&&◌, get_or, drop}
use Rattle.std.proofs.Math.Path.{refl}
use Rattle.std.proofs.Common.{sym, ap, ◌∙◌, suc-mul, mul-le-mul_right, add-one, sub-one, drop_of_length-le, drop-cons}
use mathlib.Core.List.{List, [], ◌∷◌}
use Prim.Native.Nat.{ℕ, zero, suc, ◌+◌, ◌*◌, ◌-◌, ◌/◌, ◌^◌, ◌≤◌, ◌<◌}
use native.Mathlib.Omega.{arith}
use Rattle.std.proofs.Math.ListN.{length}
use Rattle.std.proofs.lemmas.Bool.{not-true, not-false}
use Rattle.limits.specs.Limits.{max_statistics}
use Rattle.words.specs.Word.{word_at, words_of}
use Rattle.words.specs.WordLaws.{length_words, words_at}
use Rattle.suiting.specs.Suiting.{fitting}
use Rattle.statistics.specs.Statistics.{statistic_of}
use Rattle.statistics.specs.Reading.{read_at}
use Rattle.statistics.specs.declared.Statistic.{Statistic}
use Rattle.statistics.specs.declared.Statistic.TheVariants.{Rows}
use Rattle.pruning.specs.Cells.{cell_type, row_fine, rows_fine}
use Rattle.cells.specs.Grids.{list_of, length_list}

module _ (test : ℕ → Bool) (grid : List ℕ) (wide : ℕ) where
  -- so many cells that pass a test, the first at a place, each so far behind the last
  unfoldable pub cells_pass : ℕ → ℕ → Bool
  cells_pass zero at = true
  cells_pass (suc n) at = test (get_or grid at 0) && cells_pass n (at + wide)

-- so many cells of a type
abbrev pub column_fine : List ℕ → ℕ → List ℕ → ℕ → ℕ → ℕ → Bool
column_fine pool type = cells_pass (fitting pool type)

module _ (schema pool grid : List ℕ) (wide n : ℕ) where
  -- a column for each statistic, one beside the other
  unfoldable pub columns_fine : List Statistic → ℕ → Bool
  columns_fine [] at = true
  columns_fine (s ∷ ss) at = column_fine pool (cell_type schema s) grid wide n at && columns_fine ss (at + 1)

-- what calls at words answer is a test
abbrev pub Tests : (ℕ → Bool → Type 0) → (ℕ → Bool) → Type 0
Tests answers test = (w : ℕ) (b : Bool) → w < 2 ^ 64 → answers w b → b ≡ test w

-- a column that begins in the first row, and a grid of so many rows
pub record ColumnRoom (grid : List ℕ) (at wide containers : ℕ) : Type 0 where
  pub first : at < wide
  pub narrow : wide ≤ max_statistics
  pub rows : containers * wide ≤ length grid / 8

-- ---- rows and columns

four : (a b c d : Bool) → ((a && b) && (c && d)) ≡ ((a && c) && (b && d))
four false b c d = refl
four true true c d = refl
four true false true d = refl
four true false false d = refl

module _ (schema pool : List ℕ) (list : List Statistic) (grid : List ℕ) where
  -- rows of some of the statistics
  rows_of : List Statistic → ℕ → ℕ → Bool
  rows_of ss zero at = true
  rows_of ss (suc n) at = row_fine schema pool list grid ss at && rows_of ss n (at + length list)

  rows_none : (n at : ℕ) → rows_of [] n at ≡ true
  unfolding rows_of row_fine
  rows_none zero at = refl
  rows_none (suc n) at = rows_none n (at + length list)

  rows_more : (s : Statistic) (ss : List Statistic) (n at : ℕ)
      → rows_of (s ∷ ss) n at ≡ (column_fine pool (cell_type schema s) grid (length list) n at && rows_of ss n (at + 1))
  unfolding rows_of row_fine cells_pass
  rows_more s ss zero at = refl
  rows_more s ss (suc n) at =
      let x : at + length list + 1 ≡ at + 1 + length list = omega arith in
      rw (rows_more s ss n (at + length list), x)
      (four (fitting pool (cell_type schema s) (get_or grid at 0)) (row_fine schema pool list grid ss (at + 1)) (column_fine pool (cell_type schema s) grid (length list) n (at + length list)) (rows_of ss n (at + 1 + length list)))

  columns_are : (ss : List Statistic) (n at : ℕ) → rows_of ss n at ≡ columns_fine schema pool grid (length list) n ss at
  unfolding columns_fine
  columns_are [] n at = rows_none n at
  columns_are (s ∷ ss) n at = rows_more s ss n at ∙ rw (columns_are ss n (at + 1))

  rows_are : (n at : ℕ) → rows_fine schema pool list grid n at ≡ rows_of list n at
  unfolding rows_of rows_fine
  rows_are zero at = refl
  rows_are (suc n) at = rw (rows_are n (at + length list))

  pub rows_columns : (n : ℕ) → rows_fine schema pool list grid n 0 ≡ columns_fine schema pool grid (length list) n list 0
  rows_columns n = rows_are n 0 ∙ columns_are list n 0

-- ---- a column, cell by cell: the grid in bytes

-- the place of a row's cell, and of the next row's
module _ (row n at wide most : ℕ) (h : row < n) (k : at < wide) (r : n * wide ≤ most) where
  pub cell_inside : row * wide + at < most
  cell_inside =
      let p : (row + 1) * wide ≤ n * wide = mul-le-mul_right wide (omega arith) in
      let q : (row + 1) * wide ≡ row * wide + wide = rw add-one (suc-mul row wide) in
      omega arith

module _ (test : ℕ → Bool) (gs : List ℕ) (wide n at : ℕ) where
  -- the cells from a row on
  abbrev pub cells_from : ℕ → Bool
  cells_from row = cells_pass test (words_of gs) wide (n - row) (row * wide + at)

  pub cells_start : cells_pass test (words_of gs) wide n at ≡ cells_from 0
  cells_start =
      let e : n ≡ n - 0 = omega arith in
      let f : at ≡ 0 * wide + at = omega arith in
      ap (λ (i : ℕ). cells_pass test (words_of gs) wide n i) f ∙ ap (λ (k : ℕ). cells_pass test (words_of gs) wide k (0 * wide + at)) e

  pub cells_end : (row : ℕ) → n ≤ row → cells_from row ≡ true
  unfolding cells_pass
  cells_end row h = let e : n - row ≡ 0 = omega arith in ap (λ (k : ℕ). cells_pass test (words_of gs) wide k (row * wide + at)) e

  -- v is the word of the row's cell, b what the test says of it
  pub cells_is : (row : ℕ) → row < n → row * wide + at < length gs / 8 → (v : ℕ) → v ≡ word_at gs (8 * (row * wide + at)) → (b : Bool) → b ≡ test v
      → cells_from row ≡ (b && cells_from (row + 1))
  unfolding cells_pass
  cells_is row h k v e b t =
      let i : ℕ = row * wide + at in
      let x : n - row ≡ suc (n - (row + 1)) = omega arith in
      let y : i + wide ≡ (row + 1) * wide + at = rw (add-one, suc-mul row wide) (omega arith) in
      ap (λ (m : ℕ). cells_pass test (words_of gs) wide m i) x
      ∙ rw (words_at gs i k, ← e, ← t) (ap (λ (j : ℕ). b && cells_pass test (words_of gs) wide (n - (row + 1)) j) y)

module _ (pool : List ℕ) (type : ℕ) (gs : List ℕ) (wide : ℕ) where
  abbrev pub column_from : ℕ → ℕ → Bool
  column_from left at = column_fine pool type (words_of gs) wide left at

  pub column_end : (left at : ℕ) → left ≤ 0 → column_from left at ≡ true
  unfolding cells_pass
  column_end zero at h = refl
  column_end (suc left) at h = absurd (omega arith)

  -- v is the cell's word
  module _ (at : ℕ) (k : at < length gs / 8) (v : ℕ) (g : v ≡ word_at gs (8 * at)) (b : Bool) (c : b ≡ fitting pool type v) where
    column_is : (left : ℕ) → 0 < left → column_from left at ≡ (b && column_from (left - 1) (at + wide))
    unfolding cells_pass
    column_is zero h = absurd (omega arith)
    column_is (suc left) h = rw (words_at gs at k, ← g, ← c, sub-one)

    pub column_faulty : (left : ℕ) → 0 < left → not b ≡ true → column_from left at ≡ false
    column_faulty left h n = column_is left h ∙ rw (not-true b n)

    pub column_next : (left : ℕ) → 0 < left → not b ≡ false → column_from left at ≡ column_from (left - 1) (at + wide)
    column_next left h n = column_is left h ∙ rw (not-false b n)

-- the room of so many cells of a column that begins at a place of the first row: for the next, and for the rest behind it
pub column_room : (left i wide at m : ℕ) → 0 < left → at < wide → i + left * wide ≤ at + m → (i < m) × (i + wide + (left - 1) * wide ≤ at + m)
column_room zero i wide at m h k r = absurd (omega arith)
column_room (suc left) i wide at m h k r =
    let e : suc left * wide ≡ left * wide + wide = suc-mul left wide in
    (omega arith, rw sub-one (omega arith))

-- ---- columns, one after the other: the list and the grid in bytes

module _ (schema pool bs gs : List ℕ) (n : ℕ) where
  -- the columns of what is left of the list
  abbrev pub columns_from : ℕ → Bool
  columns_from p = columns_fine schema pool (words_of gs) (length bs / 8) n (drop p (list_of bs)) p

  pub columns_all : rows_fine schema pool (list_of bs) (words_of gs) n 0 ≡ columns_from 0
  columns_all =
      rows_columns schema pool (list_of bs) (words_of gs) n
      ∙ ap (λ (k : ℕ). columns_fine schema pool (words_of gs) k n (list_of bs) 0) (length_list bs)

  pub columns_end : (p : ℕ) → length bs / 8 ≤ p → columns_from p ≡ true
  unfolding columns_fine
  columns_end p h = rw (drop_of_length-le (list_of bs) {i = p} (rw length_list h))

  -- the column of the statistic s, whose word w stands at place p of the list; type is that of its cells
  module _ (p : ℕ) (h : p < length bs / 8) (w : ℕ) (e : w ≡ word_at bs (8 * p)) (s : Statistic) (f : s ≡ statistic_of w)
      (type : ℕ) (t : type ≡ cell_type schema s) (b : Bool) (c : b ≡ column_fine pool type (words_of gs) (length bs / 8) n p) where
    here : drop p (list_of bs) ≡ s ∷ drop (p + 1) (list_of bs)
    here =
        let x : get_or (list_of bs) p Rows ≡ s = read_at (words_of bs) p (rw length_words h) ∙ ap statistic_of (words_at bs p h ∙ sym e) ∙ sym f in
        drop-cons (list_of bs) p Rows (rw length_list h) ∙ rw (x, add-one)

    pub columns_is : columns_from p ≡ (b && columns_from (p + 1))
    unfolding columns_fine
    columns_is = rw (here, ← t, ← c)

    pub columns_faulty : not b ≡ true → columns_from p ≡ false
    columns_faulty k = columns_is ∙ rw (not-true b k)

    pub columns_next : not b ≡ false → columns_from p ≡ columns_from (p + 1)
    columns_next k = columns_is ∙ rw (not-false b k)
