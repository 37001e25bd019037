-- The statistics list at the front of a buffer: what stands there, the room that it grows into, and what growing leaves.
-- Assumes nothing.
use Rattle.std.specs.Prelude.{◌≡◌, Bool, true, false, List, [], ◌∷◌, ℕ, ◌*◌, ◌≤◌, ◌<◌, length, take, drop}
use Rattle.std.proofs.Math.Option.{Option, some, none}
use Rattle.std.proofs.lemmas.List.Edits.{sets}
use Rattle.words.specs.Word.{words_of, bytes_of}
use Rattle.predicate.specs.declared.Column.{Column}
use Rattle.statistics.specs.declared.Statistic.{Statistic}
use Rattle.statistics.specs.declared.Statistic.TheVariants.{Least, Greatest, Blanks, Rows}
use Rattle.statistics.specs.Statistics.{statistic_words, statistics_of, added_all}

-- the list that a buffer's words stand for
abbrev pub list_of : List ℕ → List Statistic
list_of bs = statistics_of (words_of bs)

-- the first n of them
unfoldable pub listed_in : ℕ → List ℕ → List Statistic
listed_in n bs = list_of (take (8 * n) bs)

-- fewer than 256 of them, so that every place is one byte
abbrev pub Few : List ℕ → Type 0
Few bs = length bs < 2048

-- room for n statistics, and for what they become when ss are added
pub record Room (ss : List Statistic) (n : ℕ) (bs : List ℕ) : Type 0 where
  pub front : 8 * n ≤ length bs
  pub whole : 8 * length (added_all (listed_in n bs) ss) ≤ length bs

-- ss added to the first n: r now stand there, new ones behind the old, and every other byte is as it was
pub record Grown (ss : List Statistic) (n : ℕ) (old new : List ℕ) (r : ℕ) : Type 0 where
  pub count : r ≡ length (added_all (listed_in n old) ss)
  pub bytes : new ≡ sets old (8 * n) (bytes_of (statistic_words (drop n (added_all (listed_in n old) ss))))
  pub again : listed_in r new ≡ added_all (listed_in n old) ss

-- whether there is an upper bound
abbrev pub is_bounded : Option (List ℕ) → Bool
is_bounded none = false
is_bounded (some upper) = true

-- LIKE: least and greatest, then blanks and rows where the pattern has an upper bound
abbrev pub like_listed : Column → Bool → List Statistic
like_listed c true = Least c ∷ Greatest c ∷ Blanks c ∷ Rows ∷ []
like_listed c false = Least c ∷ Greatest c ∷ []
