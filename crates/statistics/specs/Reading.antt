-- The list that words stand for, one statistic a word. Assumes nothing.
use Rattle.std.specs.Prelude.{◌≡◌, refl, List, [], ◌∷◌, ℕ, zero, suc, ◌≤◌, ◌<◌, ◌*◌, ◌/◌, length, get_or}
use Rattle.std.proofs.Common.{ap, arith}
use Rattle.std.proofs.Math.ListN.{get_or-eq_default}
use Rattle.words.specs.Word.{word_at, words_of}
use Rattle.words.specs.WordLaws.{length_words, words_at}
use Rattle.statistics.specs.declared.Statistic.TheVariants.{Rows}
use Rattle.statistics.specs.Statistics.{statistic_of, statistics_of}

pub length_read : (ws : List ℕ) → length (statistics_of ws) ≡ length ws
unfolding statistics_of
length_read [] = refl
length_read (w ∷ ws) = ap suc (length_read ws)

pub read_at : (ws : List ℕ) (i : ℕ) → i < length ws → get_or (statistics_of ws) i Rows ≡ statistic_of (get_or ws i 0)
unfolding statistics_of
read_at [] i h = absurd (omega arith)
read_at (w ∷ ws) zero h = refl
read_at (w ∷ ws) (suc i) h = read_at ws i (omega arith)

pub read_past : (ws : List ℕ) (i : ℕ) → length ws ≤ i → get_or (statistics_of ws) i Rows ≡ Rows
read_past ws i h = get_or-eq_default (statistics_of ws) Rows (rw length_read h)

-- the word of a place inside the list, where it begins eight bytes for each in front
pub read_word : (bs : List ℕ) (i : ℕ) → i < length bs / 8 → get_or (statistics_of (words_of bs)) i Rows ≡ statistic_of (word_at bs (8 * i))
read_word bs i h = rw (read_at (words_of bs) i (rw length_words h), words_at bs i h)

pub read_end : (bs : List ℕ) (i : ℕ) → length bs / 8 ≤ i → get_or (statistics_of (words_of bs)) i Rows ≡ Rows
read_end bs i h = read_past (words_of bs) i (rw length_words h)
