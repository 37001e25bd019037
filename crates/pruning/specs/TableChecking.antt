-- Checked tables: the rules for a table, its statistics list and its guarantees, all refused by one number. Assumes nothing.
use Rattle.std.specs.Prelude.{Bool, true, false, cond, not, Option, None, Some, ◌&&◌, ◌||◌, List, [], ◌∷◌, ℕ, zero, suc, ◌+◌, ◌%◌, length, get_or, eqb, leb, ltb}
use Rattle.limits.specs.Limits.{max_table_text_bytes, max_table_depth, table_room, table_pool_room, statistics_room, guarantees_room}
use Rattle.words.specs.Word.{words_of}
use Rattle.literals.specs.Literals.{length_of, plain, suits, truth_type}
use Rattle.predicate.specs.Checking.{type_in, unused_zero}
use Rattle.statistics.specs.Statistics as Statistics
use Rattle.statistics.specs.declared.Place.{Place}
use Rattle.statistics.specs.declared.Statistic.{Statistic}
use Rattle.statistics.specs.declared.Statistic.TheVariants.{Least, Greatest, Blanks, Rows}
use Rattle.guarantees.specs.Guarantees as Guarantees
use Rattle.pruning.specs.TableReading.{kind_of, operator_field, first_field, second_field, literal_first_field, zero_field, statistic_at, table_node_at}
use Rattle.pruning.specs.declared.TableNode.{TableNode}
use Rattle.pruning.specs.declared.TableNode.TheVariants.{Always, Join, Against, Positive, Differ, Holds, Negation}
use Rattle.pruning.specs.declared.TableShape.{TableShape}

-- ---- a statistics list

-- unnamed fields zero, the column in the schema, the rows entry with column 0
unfoldable pub statistic_fine : List ℕ → ℕ → Bool
statistic_fine schema w =
    eqb (Statistics.zero_field w) 0
    && (ltb (Statistics.column_field w) (length schema) && (ltb (Statistics.type_field w) 3 || eqb (Statistics.column_field w) 0))

abbrev pub stands_in : ℕ → List ℕ → Bool
stands_in w [] = false
stands_in w (x ∷ xs) = eqb x w || stands_in w xs

-- no statistic stands twice
unfoldable pub statistics_fine : List ℕ → List ℕ → Bool
statistics_fine schema [] = true
statistics_fine schema (w ∷ ws) = statistic_fine schema w && (not (stands_in w ws) && statistics_fine schema ws)

-- ---- guarantees; a guarantee's place is not checked

unfoldable pub guarantees_fine : List ℕ → List ℕ → Bool
guarantees_fine schema [] = true
guarantees_fine schema (w ∷ ws) =
    eqb (Guarantees.zero_field w) 0 && (ltb (Guarantees.column_field w) (length schema) && guarantees_fine schema ws)

-- ---- a table's word: what its kind has

abbrev pub naming : ℕ → Bool → Bool → Bool → TableShape
naming n a b c = record { operators = n; first = a; second = b; literal_first = c }

-- by their kinds; an unknown kind has no operator
abbrev pub table_shape_of : ℕ → TableShape
table_shape_of kind =
    get_or
    (naming 2 false false false
    ∷ naming 1 false false false
    ∷ naming 1 false false false
    ∷ naming 6 true false true
    ∷ naming 1 true false false
    ∷ naming 1 true true false
    ∷ naming 1 true false false
    ∷ naming 1 false false false
    ∷ [])
    kind (naming 0 false false false)

-- a known kind and operator, every unnamed and unused field zero
unfoldable pub table_formed : ℕ → Bool
table_formed w =
    let s = table_shape_of (kind_of w) in
    ltb (operator_field w) s.operators
    && (unused_zero s.first (first_field w)
    && (unused_zero s.second (second_field w)
    && (unused_zero s.literal_first (literal_first_field w) && eqb (zero_field w) 0)))

-- ---- what a node names

abbrev pub is_bound : Statistic → Bool
is_bound (Least c) = true
is_bound (Greatest c) = true
is_bound (Blanks c) = false
is_bound Rows = false

abbrev pub is_blanks : Statistic → Bool
is_blanks (Least c) = false
is_blanks (Greatest c) = false
is_blanks (Blanks c) = true
is_blanks Rows = false

abbrev pub is_rows : Statistic → Bool
is_rows (Least c) = false
is_rows (Greatest c) = false
is_rows (Blanks c) = false
is_rows Rows = true

-- the type of a statistic's column
abbrev pub bound_type : List ℕ → Statistic → ℕ
bound_type schema s = type_in schema (Statistics.column_in s)

-- null or of the column's type, of that type's length or truth value, and inside the pool
abbrev pub table_literal : List ℕ → List ℕ → Statistic → ℕ → Bool
table_literal schema pool s w = plain w && (suits pool (bound_type schema s) w && leb (length_of w) max_table_text_bytes)

module _ (schema : List ℕ) (list : List Statistic) (pool ws : List ℕ) where
  -- a place in the list, with a statistic of this sort
  abbrev pub named : (Statistic → Bool) → Place → Bool
  named sort p = ltb p.0 (length list) && sort (statistic_at list p)

  -- a node names what its kind reads; the literal word of kind 3 stands behind it
  abbrev pub table_named : ℕ → TableNode → Bool
  table_named at (Always b) = true
  table_named at (Join j) = true
  table_named at (Against o p b l) =
      named is_bound p && (ltb (at + 1) (length ws) && table_literal schema pool (statistic_at list p) (get_or ws (at + 1) 0))
  table_named at (Positive p) = named is_blanks p
  table_named at (Differ p q) = named is_blanks p && named is_rows q
  table_named at (Holds p) = named is_bound p && eqb (bound_type schema (statistic_at list p)) truth_type
  table_named at Negation = true

  abbrev pub table_node_fine : ℕ → Bool
  table_node_fine at = ltb at (length ws) && (table_formed (get_or ws at 0) && table_named at (table_node_at pool ws at))

  abbrev pub then_at : (ℕ → Option ℕ) → Option ℕ → Option ℕ
  then_at f None = None
  then_at f (Some m) = f m

  -- what stands behind a node's word, f checking its children
  abbrev pub table_behind : (ℕ → Option ℕ) → ℕ → TableNode → Option ℕ
  table_behind f at (Always b) = Some (at + 1)
  table_behind f at (Join j) = then_at f (f (at + 1))
  table_behind f at (Against o p b l) = Some (at + 2)
  table_behind f at (Positive p) = Some (at + 1)
  table_behind f at (Differ p q) = Some (at + 1)
  table_behind f at (Holds p) = Some (at + 1)
  table_behind f at Negation = f (at + 1)

  -- one table, with a depth left
  unfoldable pub check_table_from : ℕ → ℕ → Option ℕ
  check_table_from zero at = None
  check_table_from (suc d) at = cond (table_node_fine at) (table_behind (check_table_from d) at (table_node_at pool ws at)) None

  abbrev pub ends : Option ℕ → Bool
  ends None = false
  ends (Some m) = eqb m (length ws)

  -- one prefix tree, nothing over
  unfoldable pub table_fine : Bool
  table_fine = ends (check_table_from max_table_depth 0)

-- ---- all of a checked table

-- whole words within their room
abbrev pub words_within : List ℕ → ℕ → Bool
words_within bs room = eqb (length bs % 8) 0 && leb (length bs) room

unfoldable pub checked_table : List ℕ → List ℕ → List ℕ → List ℕ → List ℕ → Bool
checked_table schema table pool stats guars =
    words_within table table_room
    && (leb (length pool) table_pool_room
    && (words_within stats statistics_room
    && (words_within guars guarantees_room
    && (statistics_fine schema (words_of stats)
    && (guarantees_fine schema (words_of guars)
    && table_fine schema (Statistics.statistics_of (words_of stats)) pool (words_of table))))))
