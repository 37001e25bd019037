-- Rewriting's call, and pruning's call by its outputs, as the demands speak of them; and calls of the two entries, by their contracts.
-- Assumes nothing.
use Rattle.std.specs.Prelude.{◌≡◌, refl, List, ℕ, ◌*◌, length, get_or, take}
use Rattle.words.specs.Word.{words_of}
use Rattle.words.specs.Layout.{field}
use Rattle.predicate.specs.Predicates.{Predicate}
use Rattle.predicate.specs.Calls.{rewrite_fault}
use Rattle.predicate.specs.declared.Rooms.{Rooms}
use Rattle.table.specs.Worth.{Cells}
use Rattle.pruning.specs.Cells.{cell_of}
use Rattle.spill.specs.Rewrite.{Outcome, writes, rewriting, predicate_of, answer_layout, table_out, pool_out, statistics_out, guarantees_out}
use Rattle.spill.specs.Prune.{Call, pruning, list_in}
use Rattle.spill.specs.Rewriting.{rooms_of}
use Rattle.spill.specs.Done.{Buffers, Rewrote, Flagged}
use Rattle.spill.specs.Pruning as Pruning

-- what rewriting is given
pub record Asked : Type 0 where
  pub schema : List ℕ
  pub predicate : List ℕ
  pub pool : List ℕ
  pub limit : ℕ
  pub rooms : Rooms

abbrev pub fault_of : Asked → ℕ
fault_of a = rewrite_fault a.schema a.predicate a.pool a.limit a.rooms

abbrev pub outcome_of : Asked → Outcome
outcome_of a = rewriting a.schema a.predicate a.pool a.limit a.rooms

-- the predicate asked
abbrev pub asked_for : Asked → Predicate
asked_for a = predicate_of a.predicate a.pool

-- what pruning is given besides
pub record Blocks : Type 0 where
  pub containers : ℕ
  pub grid : List ℕ
  pub cells : List ℕ
  pub answers : List ℕ
  pub room : ℕ

-- pruning by an outcome of rewriting
abbrev pub call_of : List ℕ → Outcome → Blocks → Call
call_of schema o b =
    record {
      schema = schema;
      table = table_out o;
      pool = pool_out o;
      statistics = statistics_out o;
      guarantees = guarantees_out o;
      containers = b.containers;
      grid = b.grid;
      cells = b.cells;
      answers = b.answers;
      room = b.room;
    }

-- the cells of a container of a call
abbrev pub cells_in : Call → ℕ → Cells
cells_in c i = cell_of c.schema c.cells (list_in c) (words_of c.grid) i

-- ---- calls of the entries: what they are given, their buffers before and after, their answer, and their contract

pub record RewriteCall : Type 0 where
  pub asked : Asked
  pub old : Buffers
  pub new : Buffers
  pub answer : ℕ
  pub rooms : asked.rooms ≡ rooms_of old
  pub contract : Rewrote (outcome_of asked) old new answer

pub record PruneCall : Type 0 where
  pub given : Call
  pub old : List ℕ
  pub new : List ℕ
  pub answer : ℕ
  pub room : given.room ≡ length old
  pub contract : Flagged (pruning given) old new answer

-- the contract of spill_rewrite, and of spill_prune, as each stands in the code
pub rewrite_call : (schema predicate pool : List ℕ) (limit : ℕ) (old new : Buffers) (r : ℕ)
    → Rewrote (rewriting schema predicate pool limit (rooms_of old)) old new r → RewriteCall
rewrite_call schema predicate pool limit old new r done =
    record {
      asked = record { schema = schema; predicate = predicate; pool = pool; limit = limit; rooms = rooms_of old };
      old = old;
      new = new;
      answer = r;
      rooms = refl;
      contract = done;
    }

pub prune_call : (schema table pool list guars : List ℕ) (containers : ℕ) (grid cells answers old new : List ℕ) (r : ℕ)
    → Flagged (pruning (Pruning.call_of schema table pool list guars containers grid cells answers (length old))) old new r → PruneCall
prune_call schema table pool list guars containers grid cells answers old new r done =
    record {
      given = Pruning.call_of schema table pool list guars containers grid cells answers (length old);
      old = old;
      new = new;
      answer = r;
      room = refl;
      contract = done;
    }

-- ---- what the answer word of rewriting names

abbrev pub refusal_in : ℕ → ℕ
refusal_in r = field answer_layout 0 r

-- counts, in bytes
abbrev pub table_bytes : ℕ → ℕ
table_bytes r = 8 * field answer_layout 1 r

abbrev pub pool_bytes : ℕ → ℕ
pool_bytes r = field answer_layout 2 r

abbrev pub statistics_bytes : ℕ → ℕ
statistics_bytes r = 8 * field answer_layout 3 r

abbrev pub guarantees_bytes : ℕ → ℕ
guarantees_bytes r = 8 * field answer_layout 4 r

-- the counted fronts, as a host reads them
abbrev pub fronts_of : RewriteCall → Outcome
fronts_of c =
    let r = c.answer in
    writes
    (take (table_bytes r) c.new.table)
    (take (pool_bytes r) c.new.pool)
    (take (statistics_bytes r) c.new.statistics)
    (take (guarantees_bytes r) c.new.guarantees)

-- ---- a round: rewriting that named no refusal, and pruning, not refused either, by the fronts that it left

pub record Round : Type 0 where
  pub rewrite : RewriteCall
  pub blocks : Blocks
  pub prune : PruneCall
  pub rewrote : refusal_in rewrite.answer ≡ 0
  pub lent_on : prune.given ≡ call_of rewrite.asked.schema (fronts_of rewrite) blocks
  pub pruned : prune.answer ≡ 0

-- its predicate, and the flag of a container
abbrev pub predicate_in : Round → Predicate
predicate_in x = asked_for x.rewrite.asked

abbrev pub flag_byte : Round → ℕ → ℕ
flag_byte x i = get_or x.prune.new i 0
