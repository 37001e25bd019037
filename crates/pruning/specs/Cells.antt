-- Cells and the grid: which cells are accepted, what each is worth, and which answer bytes are accepted. Assumes nothing.
use Rattle.std.specs.Prelude.{Bool, true, cond, ◌&&◌, ◌||◌, List, [], ◌∷◌, ℕ, zero, suc, ◌+◌, ◌*◌, length, get_or, eqb, leb, ltb, pos}
use Rattle.words.specs.Word.{word_at}
use Rattle.literals.specs.Literals.{Value, null, int, type_of, offset_of, null_type, integer_type, plain, suits, value_at}
use Rattle.predicate.specs.Checking.{type_in}
use Rattle.statistics.specs.Statistics.{place_of}
use Rattle.statistics.specs.declared.Statistic.{Statistic}
use Rattle.statistics.specs.declared.Statistic.TheVariants.{Least, Greatest, Blanks, Rows}

-- ---- one cell: a literal word into the cell pool, null meaning absent

-- least and greatest have the column's type; blanks and rows are integers
abbrev pub cell_type : List ℕ → Statistic → ℕ
cell_type schema (Least c) = type_in schema c.0
cell_type schema (Greatest c) = type_in schema c.0
cell_type schema (Blanks c) = integer_type
cell_type schema Rows = integer_type

abbrev pub cell_fine : List ℕ → List ℕ → Statistic → ℕ → Bool
cell_fine schema pool s w = plain w && suits pool (cell_type schema s) w

-- read unsigned
abbrev pub count_at : List ℕ → ℕ → Value
count_at pool w = cond (eqb (type_of w) null_type) null (int (pos (word_at pool (offset_of w))))

abbrev pub cell_value : List ℕ → Statistic → ℕ → Value
cell_value pool (Least c) w = value_at pool w
cell_value pool (Greatest c) w = value_at pool w
cell_value pool (Blanks c) w = count_at pool w
cell_value pool Rows w = count_at pool w

-- ---- the grid: container, then statistics list

module _ (schema pool : List ℕ) (list : List Statistic) (grid : List ℕ) where
  unfoldable pub row_fine : List Statistic → ℕ → Bool
  row_fine [] at = true
  row_fine (s ∷ ss) at = cell_fine schema pool s (get_or grid at 0) && row_fine ss (at + 1)

  unfoldable pub rows_fine : ℕ → ℕ → Bool
  rows_fine zero at = true
  rows_fine (suc n) at = row_fine list at && rows_fine n (at + length list)

  -- the cell at a place of a container's row
  abbrev pub cell_at : ℕ → ℕ → Statistic → Value
  cell_at container p s = cell_value pool s (get_or grid (container * length list + p) 0)

  -- the cell of a statistic in a container; one that is not listed is absent
  unfoldable pub cell_of : ℕ → Statistic → Value
  cell_of container s = cond (ltb (place_of s list) (length list)) (cell_at container (place_of s list) s) null

-- ---- answers: none at all, or a byte up to 2 for each container, then guarantee

unfoldable pub up_to_two : List ℕ → Bool
up_to_two [] = true
up_to_two (a ∷ as₀) = leb a 2 && up_to_two as₀

abbrev pub answers_fine : ℕ → ℕ → List ℕ → Bool
answers_fine containers guars answers =
    (eqb (length answers) 0 || eqb (length answers) (containers * guars)) && up_to_two answers
