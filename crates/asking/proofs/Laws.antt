-- All that a predicate asks for has its room, and stands at the front. Assumes nothing.
use mathlib.Core.Path.{◌≡◌, refl, sym}
use mathlib.Core.List.{List, []}
use Prim.Native.Nat.{ℕ, ◌≤◌}
use lib.ListN.{length}
use Rattle.limits.specs.Limits.{max_columns, statistics_room}
use Rattle.words.specs.Word.{bytes_of}
use Rattle.words.specs.WordLaws.{bytes_none}
use Rattle.words.specs.Stores.{written}
use Rattle.predicate.specs.Predicates.{Predicate}
use Rattle.predicate.specs.Accepted.{Fine, fine_columns}
use Rattle.statistics.specs.declared.Statistic.{Statistic}
use Rattle.statistics.specs.Statistics.{statistic_words, added_all}
use Rattle.statistics.specs.ListLaws.{Columns, columns_wider}
use Rattle.table.specs.Rewriting.{lists}
use Rattle.table.proofs.Naming.{listed_columns}
use Rattle.listing.specs.Listing.{Grown}
use Rattle.listing.specs.ListingLaws.{grown_front, room_all}

pub all_columns : (limit : ℕ) (schema : List ℕ) (p : Predicate) → length schema ≤ max_columns → Fine schema p → Columns max_columns (lists limit schema p)
all_columns limit schema p h f =
    columns_wider (length schema) max_columns (lists limit schema p) h
    (listed_columns (length schema) schema limit p (fine_columns schema p f))

pub all_listed : (ss : List Statistic) (old new : List ℕ) (r : ℕ) → Columns max_columns ss → statistics_room ≤ length old → Grown ss 0 old new r
    → (r ≡ length (added_all [] ss)) × (new ≡ written (bytes_of (statistic_words (added_all [] ss))) old)
all_listed ss old new r c h g = grown_front ss [] 0 old new r refl tt (sym bytes_none) (room_all ss old c h) g
