-- The whole of pruning, from the call's bytes to a refusal or the flags. Assumes nothing.
use Rattle.std.specs.Prelude.{Bool, cond, ◌&&◌, List, [], ◌∷◌, ℕ, zero, suc, ◌+◌, ◌*◌, ◌/◌, length, eqb, leb}
use Rattle.limits.specs.Limits.{max_containers, max_table_depth, bad_schema, bad_containers, bad_table, bad_grid, bad_answers}
use Rattle.words.specs.Word.{words_of}
use Rattle.predicate.specs.Checking.{schema_fine}
use Rattle.statistics.specs.Statistics.{statistics_of}
use Rattle.statistics.specs.declared.Statistic.{Statistic}
use Rattle.table.specs.Tables.{Table}
use Rattle.table.specs.Worth.{worth}
use Rattle.pruning.specs.TableReading.{table_at}
use Rattle.pruning.specs.TableChecking.{checked_table}
use Rattle.pruning.specs.Cells.{rows_fine, cell_of, answers_fine}
use Rattle.pruning.specs.Evaluating.{answers_drop, flag_of}

-- what a pruning call is given, in bytes but for the container count and the room for flags
pub record Call : Type 0 where
  pub schema : List ℕ
  pub table : List ℕ
  pub pool : List ℕ
  pub statistics : List ℕ
  pub guarantees : List ℕ
  pub containers : ℕ
  pub grid : List ℕ
  pub cells : List ℕ
  pub answers : List ℕ
  pub room : ℕ

-- the statistics list, and the table over it
abbrev pub list_in : Call → List Statistic
list_in c = statistics_of (words_of c.statistics)

abbrev pub table_in : Call → Table
table_in c = (table_at (list_in c) c.pool (words_of c.table) max_table_depth 0).table

abbrev pub grid_fine : Call → Bool
grid_fine c =
    eqb (length c.grid) (8 * (c.containers * length (list_in c)))
    && rows_fine c.schema c.cells (list_in c) (words_of c.grid) c.containers 0

-- 1, 7, 8, 9, 10
unfoldable pub prune_fault : Call → ℕ
prune_fault c =
    cond (schema_fine c.schema)
    (cond (leb c.containers max_containers && leb c.containers c.room)
    (cond (checked_table c.schema c.table c.pool c.statistics c.guarantees)
    (cond (grid_fine c)
    (cond (answers_fine c.containers (length c.guarantees / 8) c.answers) 0 bad_answers)
    bad_grid)
    bad_table)
    bad_containers)
    bad_schema

-- the flag of one container
unfoldable pub flag_in : Call → ℕ → ℕ
flag_in c i =
    flag_of (worth (cell_of c.schema c.cells (list_in c) (words_of c.grid) i) (table_in c))
    (answers_drop c.answers (words_of c.guarantees) (i * (length c.guarantees / 8)))

-- a byte for each of n containers, from one on
unfoldable pub flags_from : Call → ℕ → ℕ → List ℕ
flags_from c i zero = []
flags_from c i (suc n) = flag_in c i ∷ flags_from c (i + 1) n

pub data Pruned : Type 0 where
  refuses : ℕ → Pruned
  flags : List ℕ → Pruned

abbrev pub unless_fault : ℕ → Pruned → Pruned
unless_fault zero p = p
unless_fault (suc n) p = refuses (suc n)

unfoldable pub pruning : Call → Pruned
pruning c = unless_fault (prune_fault c) (flags (flags_from c 0 c.containers))

-- what the call returns, and what it writes
abbrev pub result_of : Pruned → ℕ
result_of (refuses n) = n
result_of (flags fs) = 0

abbrev pub flags_out : Pruned → List ℕ
flags_out (refuses n) = []
flags_out (flags fs) = fs
