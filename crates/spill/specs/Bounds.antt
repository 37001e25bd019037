-- What an accepted rewriting call says and writes: every output within its limit, and read back as what was written. Assumes nothing.
use Rattle.std.specs.Prelude.{◌≡◌, refl, Bool, true, false, cond, ◌&&◌, List, ℕ, ◌/◌, ◌%◌, ◌≤◌, ◌<◌, ◌^◌, length, eqb, leb}
use Rattle.std.proofs.Common.{arith, leb-true, eqb-true}
use Rattle.limits.specs.Limits.{max_columns, max_list_limit, max_pool_bytes, max_table_depth, table_room, table_pool_room, statistics_room, guarantees_room, max_containers, bad_schema, bad_limit, no_room, malformed, bad_containers, bad_table, bad_grid, bad_answers}
use Rattle.limits.specs.Refusals.{number_of}
use Rattle.limits.specs.declared.Refusal.{Refusal}
use Rattle.limits.specs.declared.Refusal.TheVariants.{BadSchema, BadLimit, NoRoom, Malformed, OverLimit, Misfit, BadContainers, BadTable, BadGrid, BadAnswers}
use Rattle.words.specs.Tests.{and_both}
use Rattle.words.specs.Word.{words_of, bytes_of}
use Rattle.words.specs.WordLaws.{length_bytes}
use Rattle.predicate.specs.Predicates.{Predicate}
use Rattle.predicate.specs.Accepted.{Whole}
use Rattle.predicate.proofs.Accepted.{whole}
use Rattle.statistics.specs.declared.Statistic.{Statistic}
use Rattle.statistics.specs.Statistics.{statistic_words, statistics_of}
use Rattle.table.specs.Tables.{Table}
use Rattle.table.specs.Rewriting.{rewritten, statistics}
use Rattle.table.specs.Encoding.{pool_of, table_words}
use Rattle.table.specs.Measures.{width_is}
use Rattle.table.proofs.Naming.{rewritten_listed, statistics_distinct, statistics_columns, statistics_most}
use Rattle.table.proofs.Bounds.{words_most, pool_most, height_most}
use Rattle.table.proofs.Proper.{rewritten_proper}
use Rattle.guarantees.specs.Guarantees.{guarantees, guarantee_words}
use Rattle.guarantees.proofs.Bounds.{guarantees_most, guarantees_columns, guarantees_small}
use Rattle.pruning.specs.TableReading.{table_at}
use Rattle.pruning.specs.TableChecking.{checked_table}
use Rattle.pruning.specs.Cells.{answers_fine}
use Rattle.pruning.specs.Writes.{Bounded, statistics_back, read_back, written_checked}
use Rattle.spill.specs.Prune.{Call, grid_fine, prune_fault}
use Rattle.predicate.specs.Checking.{types_fine, schema_fine, predicate_fault}
use Rattle.predicate.specs.Calls.{roomy, rewrite_fault}
use Rattle.predicate.specs.declared.Rooms.{Rooms}
use Rattle.spill.specs.Rewrite.{predicate_of}

-- ---- a refusal's number

pub number_below : (r : Refusal) → number_of r < 2 ^ 8
number_below BadSchema = omega arith
number_below BadLimit = omega arith
number_below NoRoom = omega arith
number_below Malformed = omega arith
number_below OverLimit = omega arith
number_below Misfit = omega arith
number_below BadContainers = omega arith
number_below BadTable = omega arith
number_below BadGrid = omega arith
number_below BadAnswers = omega arith

-- ---- the call

passed : (b : Bool) (x n : ℕ) → 1 ≤ n → cond b x n ≡ 0 → (b ≡ true) × (x ≡ 0)
passed true x n h e = (refl, e)
passed false x n h e = absurd (omega arith)

-- what a call with no fault says
pub record Taken (schema predicate pool : List ℕ) (limit : ℕ) (rooms : Rooms) : Type 0 where
  pub few : length schema ≤ max_columns
  pub types : types_fine schema ≡ true
  pub limited : limit ≤ max_list_limit
  pub pooled : length pool ≤ max_pool_bytes
  pub table : table_room ≤ rooms.table
  pub table_pool : table_pool_room ≤ rooms.pool
  pub statistics : statistics_room ≤ rooms.statistics
  pub guarantees : guarantees_room ≤ rooms.guarantees
  pub words : length predicate % 8 ≡ 0
  pub whole : Whole schema (words_of predicate) (predicate_of predicate pool)

pub taken : (schema predicate pool : List ℕ) (limit : ℕ) (rooms : Rooms) → rewrite_fault schema predicate pool limit rooms ≡ 0
    → Taken schema predicate pool limit rooms
unfolding rewrite_fault
taken schema predicate pool limit rooms e =
    let f4 : ℕ = cond (eqb (length predicate % 8) 0) (predicate_fault schema pool (words_of predicate)) malformed in
    let f3 : ℕ = cond (roomy rooms) f4 no_room in
    let f2 : ℕ = cond (leb limit max_list_limit && leb (length pool) max_pool_bytes) f3 bad_limit in
    let a = passed (schema_fine schema) f2 bad_schema (omega arith) e in
    let b = passed (leb limit max_list_limit && leb (length pool) max_pool_bytes) f3 bad_limit (omega arith) a.1 in
    let c = passed (roomy rooms) f4 no_room (omega arith) b.1 in
    let d = passed (eqb (length predicate % 8) 0) (predicate_fault schema pool (words_of predicate)) malformed (omega arith) c.1 in
    let s = and_both (leb (length schema) max_columns) (types_fine schema) a.0 in
    let l = and_both (leb limit max_list_limit) (leb (length pool) max_pool_bytes) b.0 in
    let r = and_both (leb table_room rooms.table) _ c.0 in
    let q = and_both (leb table_pool_room rooms.pool) _ r.1 in
    let g = and_both (leb statistics_room rooms.statistics) (leb guarantees_room rooms.guarantees) q.1 in
    record {
      few = leb-true _ _ s.0;
      types = s.1;
      limited = leb-true _ _ l.0;
      pooled = leb-true _ _ l.1;
      table = leb-true _ _ r.0;
      table_pool = leb-true _ _ q.0;
      statistics = leb-true _ _ g.0;
      guarantees = leb-true _ _ g.1;
      words = eqb-true _ _ d.0;
      whole = whole schema pool (words_of predicate) d.1;
    }

-- what a pruning call with no fault says
pub record PruneTaken (c : Call) : Type 0 where
  pub schema : schema_fine c.schema ≡ true
  pub few : c.containers ≤ max_containers
  pub room : c.containers ≤ c.room
  pub checked : checked_table c.schema c.table c.pool c.statistics c.guarantees ≡ true
  pub grid : grid_fine c ≡ true
  pub answers : answers_fine c.containers (length c.guarantees / 8) c.answers ≡ true

pub prune_taken : (c : Call) → prune_fault c ≡ 0 → PruneTaken c
unfolding prune_fault
prune_taken c e =
    let table : Bool = checked_table c.schema c.table c.pool c.statistics c.guarantees in
    let answers : Bool = answers_fine c.containers (length c.guarantees / 8) c.answers in
    let f4 : ℕ = cond answers 0 bad_answers in
    let f3 : ℕ = cond (grid_fine c) f4 bad_grid in
    let f2 : ℕ = cond table f3 bad_table in
    let f1 : ℕ = cond (leb c.containers max_containers && leb c.containers c.room) f2 bad_containers in
    let p = passed (schema_fine c.schema) f1 bad_schema (omega arith) e in
    let q = passed (leb c.containers max_containers && leb c.containers c.room) f2 bad_containers (omega arith) p.1 in
    let r = passed table f3 bad_table (omega arith) q.1 in
    let s = passed (grid_fine c) f4 bad_grid (omega arith) r.1 in
    let t = passed answers 0 bad_answers (omega arith) s.1 in
    let n = and_both (leb c.containers max_containers) (leb c.containers c.room) q.0 in
    record {
      schema = p.0;
      few = leb-true _ _ n.0;
      room = leb-true _ _ n.1;
      checked = r.0;
      grid = s.0;
      answers = t.0;
    }

-- ---- what is written

module _ (limit : ℕ) (schema ws : List ℕ) (p : Predicate) (few : length schema ≤ max_columns) (w : Whole schema ws p) where
  pub bounded : Bounded schema (length ws) (rewritten limit schema p) (statistics limit schema p) (guarantees 0 p)
  bounded =
      let t = rewritten limit schema p in
      let list = statistics limit schema p in
      record {
        few = few;
        table = omega (arith, length_bytes (table_words list 0 t), width_is list 0 t, words_most limit schema ws p w);
        pool = pool_most limit schema ws p w;
        height = height_most limit schema ws p w;
        proper = rewritten_proper limit schema p w.fine;
        names = rewritten_listed limit schema p;
        statistics = omega (arith, statistics_most limit schema p (length schema) w.columns);
        distinct = statistics_distinct limit schema p;
        columns = statistics_columns limit schema p (length schema) w.columns;
        guarantees = guarantees_most schema ws p w;
        placed = guarantees_columns schema ws p w;
        small = guarantees_small schema ws p w few;
      }

module _ (schema predicate pool : List ℕ) (limit : ℕ) (rooms : Rooms) (e : rewrite_fault schema predicate pool limit rooms ≡ 0) where
  abbrev table_of : Table
  table_of = rewritten limit schema (predicate_of predicate pool)

  abbrev list_of : List Statistic
  list_of = statistics limit schema (predicate_of predicate pool)

  pub call_bounded : Bounded schema (length (words_of predicate)) table_of list_of (guarantees 0 (predicate_of predicate pool))
  call_bounded =
      let k = taken schema predicate pool limit rooms e in
      bounded limit schema (words_of predicate) (predicate_of predicate pool) k.few k.whole

  -- what pruning reads is what was written
  pub call_list : statistics_of (words_of (bytes_of (statistic_words list_of))) ≡ list_of
  call_list = statistics_back schema (length (words_of predicate)) table_of list_of (guarantees 0 (predicate_of predicate pool)) call_bounded

  pub call_table : (table_at list_of (pool_of table_of) (words_of (bytes_of (table_words list_of 0 table_of))) max_table_depth 0).table ≡ table_of
  call_table = read_back schema (length (words_of predicate)) table_of list_of (guarantees 0 (predicate_of predicate pool)) call_bounded

  pub call_checked : checked_table schema (bytes_of (table_words list_of 0 table_of)) (pool_of table_of) (bytes_of (statistic_words list_of))
      (bytes_of (guarantee_words (guarantees 0 (predicate_of predicate pool)))) ≡ true
  call_checked = written_checked schema (length (words_of predicate)) table_of list_of (guarantees 0 (predicate_of predicate pool)) call_bounded
