-- Places that name a statistic of some sort. Assumes nothing.
use Rattle.std.specs.Prelude.{◌≡◌, refl, Bool, true, false, cond, ◌&&◌, Option, None, Some, List, ℕ, ◌+◌, ◌/◌, ◌≤◌, ◌<◌, length, get_or, leb, ltb}
use Rattle.std.proofs.Common.{◌∙◌, lt-ltb, le-ltb}
use Rattle.limits.specs.Limits.{max_table_text_bytes}
use Rattle.words.specs.Word.{words_of}
use Rattle.words.specs.WordLaws.{length_words}
use Rattle.literals.specs.Literals.{length_of, plain, suits}
use Rattle.suiting.specs.Suiting.{fitting}
use Rattle.statistics.specs.Statistics.{statistics_of}
use Rattle.statistics.specs.Reading.{length_read}
use Rattle.statistics.specs.declared.Place.{Place}
use Rattle.statistics.specs.declared.Statistic.{Statistic}
use Rattle.pruning.specs.TableReading.{statistic_at}
use Rattle.pruning.specs.TableChecking.{is_bound, bound_type, table_literal}

-- a place in the list, with a statistic of this sort
abbrev pub named_in : List Statistic → (Statistic → Bool) → Place → Bool
named_in list sort p = ltb p.0 (length list) && sort (statistic_at list p)

-- the statistic at a place, if the list has that place
abbrev pub statistic_named : List Statistic → Place → Option Statistic
statistic_named list p = cond (ltb p.0 (length list)) (Some (statistic_at list p)) None

-- a comparison at a place, with the literal word behind it
abbrev pub against_named : List ℕ → List Statistic → List ℕ → List ℕ → ℕ → Place → Bool
against_named schema list pool ws at p =
    named_in list is_bound p && (ltb (at + 1) (length ws) && table_literal schema pool (statistic_at list p) (get_or ws (at + 1) 0))

-- the statistics of bytes
abbrev pub list_of : List ℕ → List Statistic
list_of bs = statistics_of (words_of bs)

pub length_list : (bs : List ℕ) → length (list_of bs) ≡ length bs / 8
length_list bs = rw (length_read, length_words)

-- a statistic of a sort is there
abbrev pub sorted : (Statistic → Bool) → Option Statistic → Bool
sorted sort None = false
sorted sort (Some s) = sort s

pub named_sorted : (list : List Statistic) (sort : Statistic → Bool) (p : Place) → named_in list sort p ≡ sorted sort (statistic_named list p)
named_sorted list sort p = go (ltb p.0 (length list))
  where
    go : (b : Bool) → (b && sort (statistic_at list p)) ≡ sorted sort (cond b (Some (statistic_at list p)) None)
    go true = refl
    go false = refl

module _ (bs : List ℕ) (sort : Statistic → Bool) (p : Place) where
  pub named_past : length bs / 8 ≤ p.0 → named_in (list_of bs) sort p ≡ false
  named_past h = rw (length_list, le-ltb p.0 (length bs / 8) h)

  pub named_at : p.0 < length bs / 8 → (s : Statistic) → s ≡ statistic_at (list_of bs) p → named_in (list_of bs) sort p ≡ sort s
  named_at h s e = rw (length_list, lt-ltb p.0 (length bs / 8) h, e)

-- a table's literal: the tests of its word, then of its length
module _ (schema pool : List ℕ) (s : Statistic) (w k : ℕ) (b : Bool) (type : k ≡ bound_type schema s) (e : b ≡ fitting pool k w) where
  literal_is : table_literal schema pool s w ≡ (b && leb (length_of w) max_table_text_bytes)
  literal_is = rw (e, type) (splits (plain w) (suits pool (bound_type schema s) w) (leb (length_of w) max_table_text_bytes))
    where
      splits : (x y z : Bool) → (x && (y && z)) ≡ ((x && y) && z)
      splits true y z = refl
      splits false y z = refl

  pub literal_fits : b ≡ true → table_literal schema pool s w ≡ leb (length_of w) max_table_text_bytes
  literal_fits t = literal_is ∙ rw t

  pub literal_unfit : b ≡ false → table_literal schema pool s w ≡ false
  literal_unfit t = literal_is ∙ rw t
