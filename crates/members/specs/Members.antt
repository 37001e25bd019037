-- Tables written one after the other, the members of a list that stay, and whether a list has a form. Assumes nothing.
use Rattle.std.specs.Prelude.{◌≡◌, Bool, true, false, cond, List, [], ◌∷◌, ℕ, ◌+◌, ◌*◌, ◌^◌, ◌≤◌, ◌<◌, length, eqb}
use Rattle.std.proofs.lemmas.List.Edits.{sets}
use Rattle.words.specs.Word.{bytes_of}
use Rattle.predicate.specs.declared.Column.{Column}
use Rattle.predicate.specs.Predicates.{values_at}
use Rattle.statistics.specs.declared.Statistic.{Statistic}
use Rattle.table.specs.Tables.{Table}
use Rattle.table.specs.Measures.{table_width}
use Rattle.table.specs.Nests.{run_words, run_pool, opens, member_tables}
use Rattle.listing.specs.Listing.{list_of}
use Rattle.writing.specs.declared.Spot.{Spot}
use Rattle.writing.specs.declared.Writer.{Writer}
use Rattle.writing.specs.Writing.{Wide, Keeps}

-- words of tables one after the other
abbrev pub run_width : List Table → ℕ
run_width [] = 0
run_width (t ∷ ts) = table_width t + run_width ts

-- room for tables one after the other
pub record Rooms (ts : List Table) (s : Spot) (table pool : List ℕ) : Type 0 where
  pub words : Wide (run_width ts) s table
  pub bytes : s.off + length (run_pool ts) ≤ length pool
  pub small : s.off + length (run_pool ts) < 2 ^ 24

-- tables written one after the other at a spot
pub record Ran (ts : List Table) (list : List Statistic) (s : Spot) (old new old_pool new_pool : List ℕ) (r : Spot) : Type 0 where
  pub answer : r ≡ record { to = s.to + run_width ts; off = s.off + length (run_pool ts) }
  pub table : new ≡ sets old (8 * s.to) (bytes_of (run_words list s.off ts))
  pub pool : new_pool ≡ sets old_pool s.off (run_pool ts)

-- ---- the same of a writer, before and after

abbrev pub RoomsFor : List Table → Writer → Type 0
RoomsFor ts w = Rooms ts w.at w.table.now w.pool.now

pub record RanBy (ts : List Table) (w v : Writer) : Type 0 where
  pub ran : Ran ts (list_of w.list.now) w.at w.table.now v.table.now w.pool.now v.pool.now v.at
  pub keeps : Keeps w v

-- ---- the members of a list

-- the members that stay, of m literals whose words stand from a place on
unfoldable pub open_at : List ℕ → List ℕ → List ℕ → Bool → Column → ℕ → ℕ → ℕ → List Table
open_at schema pool ws b c flips m at = opens (member_tables schema b c flips (values_at pool ws m at))

-- whether a form is left where m of n members are open: IN asks all of them, NOT IN any
abbrev pub has_form : Bool → ℕ → ℕ → Bool
has_form b m n = cond (eqb m 0) false (cond b true (eqb m n))
