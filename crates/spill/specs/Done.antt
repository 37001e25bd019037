-- What each entry answers and leaves, for all inputs: the outcome's front, then what was there; and that this is the only such answer.
-- Assumes nothing.
use Rattle.std.specs.Prelude.{◌≡◌, List, ℕ}
use Rattle.std.proofs.Common.{sym, ◌∙◌}
use Rattle.words.specs.Stores.{written, written_none}
use Rattle.spill.specs.Rewrite.{Outcome, refuses, answer_word, table_out, pool_out, statistics_out, guarantees_out}
use Rattle.spill.specs.Prune as Prune
use Rattle.spill.specs.Prune.{Pruned, result_of, flags_out}

-- the four buffers of a rewriting call
pub record Buffers : Type 0 where
  pub table : List ℕ
  pub pool : List ℕ
  pub statistics : List ℕ
  pub guarantees : List ℕ

pub record Rewrote (o : Outcome) (old new : Buffers) (r : ℕ) : Type 0 where
  pub answer : r ≡ answer_word o
  pub table : new.table ≡ written (table_out o) old.table
  pub pool : new.pool ≡ written (pool_out o) old.pool
  pub statistics : new.statistics ≡ written (statistics_out o) old.statistics
  pub guarantees : new.guarantees ≡ written (guarantees_out o) old.guarantees

pub record Flagged (p : Pruned) (old new : List ℕ) (r : ℕ) : Type 0 where
  pub result : r ≡ result_of p
  pub flags : new ≡ written (flags_out p) old

-- ---- a refusal writes nothing

pub rewrite_refused : (n : ℕ) (old new : Buffers) (r : ℕ) → Rewrote (refuses n) old new r
    → (new.table ≡ old.table) × (new.pool ≡ old.pool) × (new.statistics ≡ old.statistics) × (new.guarantees ≡ old.guarantees)
rewrite_refused n old new r d =
    (d.table ∙ written_none old.table, d.pool ∙ written_none old.pool, d.statistics ∙ written_none old.statistics, d.guarantees ∙ written_none old.guarantees)

pub prune_refused : (n : ℕ) (old new : List ℕ) (r : ℕ) → Flagged (Prune.refuses n) old new r → (new ≡ old) × (r ≡ n)
prune_refused n old new r d = (d.flags ∙ written_none old, d.result)

-- ---- the outcome is the only one

pub rewrite_unique : (o : Outcome) (old new new' : Buffers) (r r' : ℕ) → Rewrote o old new r → Rewrote o old new' r'
    → (r ≡ r') × (new.table ≡ new'.table) × (new.pool ≡ new'.pool) × (new.statistics ≡ new'.statistics) × (new.guarantees ≡ new'.guarantees)
rewrite_unique o old new new' r r' d e = (
  d.answer ∙ sym e.answer,
  d.table ∙ sym e.table,
  d.pool ∙ sym e.pool,
  d.statistics ∙ sym e.statistics,
  d.guarantees ∙ sym e.guarantees,
)

pub prune_unique : (p : Pruned) (old new new' : List ℕ) (r r' : ℕ) → Flagged p old new r → Flagged p old new' r' → (r ≡ r') × (new ≡ new')
prune_unique p old new new' r r' d e = (d.result ∙ sym e.result, d.flags ∙ sym e.flags)
