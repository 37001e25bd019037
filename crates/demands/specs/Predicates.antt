-- For demand 2, "every predicate" (outcomes here, reading back in proofs/Predicates.antt): each entry has the definition's outcome and no other; what rewriting writes, read back, is the rewriting
-- of the predicate; pruning by it gives the definition's flags. From the contracts. Assumes nothing.
use Rattle.std.specs.Prelude.{◌≡◌, refl, true, List, ℕ, ◌/◌, length}
use Rattle.std.proofs.Common.{arith}
use Rattle.words.specs.Word.{words_of}
use Rattle.words.specs.WordLaws.{length_bytes}
use Rattle.predicate.specs.Predicates.{Predicate}
use Rattle.table.specs.Rewriting.{rewritten, statistics}
use Rattle.guarantees.specs.Guarantees.{guarantees, guarantee_words}
use Rattle.guarantees.specs.GuaranteeLaws.{length_guarantees}
use Rattle.pruning.specs.TableChecking.{checked_table}
use Rattle.spill.specs.Rewrite.{outputs, answer_word, table_out, pool_out, statistics_out, guarantees_out}
use Rattle.spill.specs.Prune.{Call, pruning, list_in, table_in, result_of, flags_out}
use Rattle.words.specs.Stores.{written}
use Rattle.spill.specs.Done.{Buffers, Rewrote, Flagged, rewrite_unique, prune_unique}
use Rattle.spill.specs.Bounds.{call_checked}
use Rattle.spill.specs.Rewriting.{rooms_of}
use Rattle.demands.specs.Calls.{Asked, fault_of, outcome_of, asked_for, Blocks, call_of, RewriteCall, PruneCall}
use Rattle.demands.specs.Rows as Rows

-- ---- one outcome

same_buffers : (a b : Buffers) → a.table ≡ b.table → a.pool ≡ b.pool → a.statistics ≡ b.statistics → a.guarantees ≡ b.guarantees → a ≡ b
same_buffers a b t p s g = λ i. record { table = t i; pool = p i; statistics = s i; guarantees = g i }

-- every call of rewriting has an outcome
pub rewrite_some : (a : Asked) (old : Buffers) → a.rooms ≡ rooms_of old → (c : RewriteCall) × (c.asked ≡ a) × (c.old ≡ old)
rewrite_some a old e =
    let o = outcome_of a in
    let new : Buffers = record {
      table = written (table_out o) old.table;
      pool = written (pool_out o) old.pool;
      statistics = written (statistics_out o) old.statistics;
      guarantees = written (guarantees_out o) old.guarantees;
    } in (
      record {
        asked = a;
        old = old;
        new = new;
        answer = answer_word o;
        rooms = e;
        contract = record { answer = refl; table = refl; pool = refl; statistics = refl; guarantees = refl };
      },
      refl,
      refl,
    )

-- and no two
pub rewrite_one : (c d : RewriteCall) → c.asked ≡ d.asked → c.old ≡ d.old → (c.answer ≡ d.answer) × (c.new ≡ d.new)
rewrite_one c d e f =
    let k : Rewrote (outcome_of c.asked) c.old d.new d.answer = rw (e, f) d.contract in
    let u = rewrite_unique (outcome_of c.asked) c.old c.new d.new c.answer d.answer c.contract k in
    (u.0, same_buffers c.new d.new u.1 u.2 u.3 u.4)

-- the same of pruning
pub prune_some : (c : Call) (old : List ℕ) → c.room ≡ length old → (d : PruneCall) × (d.given ≡ c) × (d.old ≡ old)
prune_some c old e = (
  record {
    given = c;
    old = old;
    new = written (flags_out (pruning c)) old;
    answer = result_of (pruning c);
    room = e;
    contract = record { result = refl; flags = refl };
  },
  refl,
  refl,
)

pub prune_one : (c d : PruneCall) → c.given ≡ d.given → c.old ≡ d.old → (c.answer ≡ d.answer) × (c.new ≡ d.new)
prune_one c d e f =
    let k : Flagged (pruning c.given) c.old d.new d.answer = rw (e, f) d.contract in
    prune_unique (pruning c.given) c.old c.new d.new c.answer d.answer c.contract k

-- what pruning finds in a call's table, pool, statistics and guarantees
pub record Reads (call : Call) (limit : ℕ) (p : Predicate) : Type 0 where
  pub checked : checked_table call.schema call.table call.pool call.statistics call.guarantees ≡ true
  pub list : list_in call ≡ statistics limit call.schema p
  pub table : table_in call ≡ rewritten limit call.schema p
  pub promises : words_of call.guarantees ≡ guarantee_words (guarantees 0 p)
  pub each : length call.guarantees / 8 ≡ length (guarantees 0 p)

-- of the outputs of an accepted call
module _ (a : Asked) (b : Blocks) (e : fault_of a ≡ 0) where
  pub outputs_read : Reads (call_of a.schema (outputs a.limit a.schema (asked_for a)) b) a.limit (asked_for a)
  unfolding Rows.written
  outputs_read =
      let l = length_bytes (guarantee_words (guarantees 0 (asked_for a))) in
      let n = length_guarantees (guarantees 0 (asked_for a)) in
      record {
        checked = call_checked a.schema a.predicate a.pool a.limit a.rooms e;
        list = Rows.list_back a b e;
        table = Rows.table_back a b e;
        promises = Rows.words_back a b e;
        each = omega arith;
      }
