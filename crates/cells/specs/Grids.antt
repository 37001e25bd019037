-- The grid and the answers. Assumes nothing.
use Rattle.std.specs.Prelude.{◌≡◌, refl, Bool, true, false, ◌&&◌, ◌||◌, List, [], ◌∷◌, ℕ, ◌+◌, ◌*◌, ◌/◌, ◌≤◌, ◌<◌, length, get_or, drop, eqb, leb}
use Rattle.std.specs.List.{list_all}
use Rattle.std.proofs.Common.{ap, ◌∙◌, mul-le-mul_right, add-one, arith, drop_of_length-le}
use Rattle.std.proofs.Math.Seq.{drop-cons}
use borrow.Author.Tests.{eq-eqb, ne_eqb, le-leb, lt-leb}
use Rattle.words.specs.Word.{words_of}
use Rattle.words.specs.WordLaws.{length_words}
use Rattle.statistics.specs.Statistics.{statistics_of}
use Rattle.statistics.specs.Reading.{length_read}
use Rattle.statistics.specs.declared.Statistic.{Statistic}
use Rattle.pruning.specs.Cells.{rows_fine, up_to_two}

-- the statistics of bytes
abbrev pub list_of : List ℕ → List Statistic
list_of bs = statistics_of (words_of bs)

pub length_list : (bs : List ℕ) → length (list_of bs) ≡ length bs / 8
length_list bs = rw (length_read, length_words)

-- a grid with a cell for each container and statistic, each of them fine
abbrev pub grid_holds : List ℕ → List ℕ → List Statistic → ℕ → List ℕ → Bool
grid_holds schema pool list containers grid =
    eqb (length grid) (8 * (containers * length list)) && rows_fine schema pool list (words_of grid) containers 0

-- none at all, or one for each container and guarantee
abbrev pub answers_hold : ℕ → ℕ → ℕ → Bool
answers_hold len containers guars = eqb len 0 || eqb len (containers * guars)

-- the grid's length, then its rows
module _ (schema pool bs gs : List ℕ) (containers : ℕ) where
  pub grid_unfit : (length gs ≡ 8 * (containers * (length bs / 8)) → ⊥) → grid_holds schema pool (list_of bs) containers gs ≡ false
  grid_unfit h = rw (length_list bs, ne_eqb (length gs) (8 * (containers * (length bs / 8))) h)

  pub grid_fits : length gs ≡ 8 * (containers * (length bs / 8)) → grid_holds schema pool (list_of bs) containers gs ≡ rows_fine schema pool (list_of bs) (words_of gs) containers 0
  grid_fits h =
      ap (λ (n : ℕ). eqb (length gs) (8 * (containers * n)) && rows_fine schema pool (list_of bs) (words_of gs) containers 0) (length_list bs)
      ∙ rw (eq-eqb (length gs) (8 * (containers * (length bs / 8))) h)

-- so many containers, of so many statistics or guarantees
pub held : (c n : ℕ) → c ≤ 4096 → n ≤ 193 → c * n ≤ 790528
held c n h k =
    let p : c * n ≤ 4096 * n = mul-le-mul_right n h in
    omega arith

-- ---- answers, byte by byte

module _ (answers : List ℕ) (i : ℕ) where
  pub two_end : length answers ≤ i → up_to_two (drop i answers) ≡ true
  unfolding up_to_two
  two_end h = rw (drop_of_length-le answers h)

  pub two_faulty : i < length answers → 2 < get_or answers i 0 → up_to_two (drop i answers) ≡ false
  unfolding up_to_two
  two_faulty h k = rw (drop-cons answers i 0 h, lt-leb (get_or answers i 0) 2 k)

  pub two_next : i < length answers → get_or answers i 0 ≤ 2 → up_to_two (drop i answers) ≡ up_to_two (drop (i + 1) answers)
  unfolding up_to_two
  two_next h k = rw (add-one, drop-cons answers i 0 h, le-leb (get_or answers i 0) 2 k)

pub two_all : (answers : List ℕ) → list_all (λ a. leb a 2) answers ≡ up_to_two answers
unfolding up_to_two
two_all [] = refl
two_all (a ∷ as₀) = rw (two_all as₀)
