-- A container's cells as a row of words, in the order of the statistics list. Assumes nothing.
use Rattle.std.specs.Prelude.{◌≡◌, refl, Bool, true, cond, List, ℕ, ◌<◌, length, get_or, ltb}
use Rattle.std.proofs.Common.{sym, ◌∙◌, true≢false, lt-ltb}
use Rattle.words.specs.declared.Walked.{Walked}
use Rattle.kleene.specs.declared.Truth.{Truth}
use Rattle.literals.specs.Literals.{null, value_at}
use Rattle.statistics.specs.Statistics.{place_of}
use Rattle.statistics.specs.ListLaws.{Distinct, place_at}
use Rattle.statistics.specs.declared.Place.{Place}
use Rattle.statistics.specs.declared.Statistic.{Statistic}
use Rattle.statistics.specs.declared.Statistic.TheVariants.{Least, Greatest, Blanks, Rows}
use Rattle.table.specs.Worth.{Cells, worth}
use Rattle.pruning.specs.TableReading.{TableRead, statistic_at}
use Rattle.pruning.specs.TableChecking.{is_bound, is_blanks, is_rows}
use Rattle.pruning.specs.Cells.{cell_value, count_at}

-- the cell of a statistic in a row; one that is not listed is absent
abbrev pub row_cells : List ℕ → List Statistic → List ℕ → Cells
row_cells pool list row s = cond (ltb (place_of s list) (length list)) (cell_value pool s (get_or row (place_of s list) 0)) null

-- a table's worth, and the place behind it
abbrev pub valued : Cells → TableRead → Walked Truth
valued cells r = record { value = worth cells r.table; next = r.next }

-- ---- the cell of the statistic at a place

-- a place of the list, with a statistic of this sort
abbrev pub NamedAt : List Statistic → (Statistic → Bool) → Place → Type 0
NamedAt list sort p = (p.0 < length list) × (sort (statistic_at list p) ≡ true)

bound_value : (pool : List ℕ) (s : Statistic) (w : ℕ) → is_bound s ≡ true → cell_value pool s w ≡ value_at pool w
bound_value pool (Least c) w h = refl
bound_value pool (Greatest c) w h = refl
bound_value pool (Blanks c) w h = absurd (true≢false (sym h))
bound_value pool Rows w h = absurd (true≢false (sym h))

blanks_value : (pool : List ℕ) (s : Statistic) (w : ℕ) → is_blanks s ≡ true → cell_value pool s w ≡ count_at pool w
blanks_value pool (Least c) w h = absurd (true≢false (sym h))
blanks_value pool (Greatest c) w h = absurd (true≢false (sym h))
blanks_value pool (Blanks c) w h = refl
blanks_value pool Rows w h = absurd (true≢false (sym h))

rows_value : (pool : List ℕ) (s : Statistic) (w : ℕ) → is_rows s ≡ true → cell_value pool s w ≡ count_at pool w
rows_value pool (Least c) w h = absurd (true≢false (sym h))
rows_value pool (Greatest c) w h = absurd (true≢false (sym h))
rows_value pool (Blanks c) w h = absurd (true≢false (sym h))
rows_value pool Rows w h = refl

module _ (pool : List ℕ) (list : List Statistic) (row : List ℕ) (d : Distinct list) (p : Place) where
  here : p.0 < length list → row_cells pool list row (statistic_at list p) ≡ cell_value pool (statistic_at list p) (get_or row p.0 0)
  here h = rw (place_at list p.0 Rows d h, lt-ltb p.0 (length list) h)

  pub bound_cell : NamedAt list is_bound p → row_cells pool list row (statistic_at list p) ≡ value_at pool (get_or row p.0 0)
  bound_cell n = here n.0 ∙ bound_value pool (statistic_at list p) (get_or row p.0 0) n.1

  pub blanks_cell : NamedAt list is_blanks p → row_cells pool list row (statistic_at list p) ≡ count_at pool (get_or row p.0 0)
  blanks_cell n = here n.0 ∙ blanks_value pool (statistic_at list p) (get_or row p.0 0) n.1

  pub rows_cell : NamedAt list is_rows p → row_cells pool list row (statistic_at list p) ≡ count_at pool (get_or row p.0 0)
  rows_cell n = here n.0 ∙ rows_value pool (statistic_at list p) (get_or row p.0 0) n.1
