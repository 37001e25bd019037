-- Demand 2, "every predicate": what rewriting writes, read back, is the rewriting of the predicate; pruning by it gives the definition's
-- flags. From the contracts. Assumes nothing.
use Rattle.std.specs.Prelude.{◌≡◌, refl, true, ◌&&◌, [], ◌∷◌, ℕ, ◌*◌, ◌<◌, length, leb}
use Rattle.std.proofs.Common.{sym, ◌∙◌, ap, subst, arith, le-leb}
use Rattle.limits.specs.Limits.{max_columns, max_containers, bad_containers, bad_grid, bad_answers}
use Rattle.predicate.specs.Checking.{schema_fine}
use Rattle.table.specs.Rewriting.{rewritten}
use Rattle.table.specs.Worth.{worth}
use Rattle.guarantees.specs.Guarantees.{guarantees, guarantee_words}
use Rattle.pruning.specs.Cells.{answers_fine}
use Rattle.pruning.specs.Evaluating.{answers_drop, flag_of}
use Rattle.spill.specs.Rewrite.{Outcome, writes, table_out, pool_out, statistics_out, guarantees_out}
use Rattle.spill.specs.Prune.{Call, prune_fault, flag_in, grid_fine}
use Rattle.spill.specs.Bounds.{taken}
use Rattle.demands.specs.Calls.{Asked, fault_of, outcome_of, asked_for, Blocks, call_of, cells_in, RewriteCall, PruneCall, refusal_in, fronts_of, Round, predicate_in, flag_byte}
use Rattle.demands.specs.Bytes.{test, first_failing, prune_order, prune_answered, accepted_outcome, flag_at}
use Rattle.demands.proofs.Bytes.{rewrite_answered}
use Rattle.demands.specs.Predicates.{Reads, outputs_read}

-- ---- read back

-- an answer word that names no refusal is an accepted call's
pub accepted_is : (c : RewriteCall) → refusal_in c.answer ≡ 0 → fault_of c.asked ≡ 0
accepted_is c z = sym (rewrite_answered c).refusal_is ∙ z

-- the counted fronts are the definition's outputs
pub fronts_are : (c : RewriteCall) → refusal_in c.answer ≡ 0 → fronts_of c ≡ outcome_of c.asked
fronts_are c z =
    let e = accepted_is c z in
    let f = (rewrite_answered c).accepted e in
    let o : Outcome = outcome_of c.asked in
    let w : fronts_of c ≡ writes (table_out o) (pool_out o) (statistics_out o) (guarantees_out o) =
    λ i. writes (f.0.front i) (f.1.0.front i) (f.1.1.0.front i) (f.1.1.1.0.front i) in
    w ∙ subst (λ x. writes (table_out x) (pool_out x) (statistics_out x) (guarantees_out x) ≡ x) (sym (accepted_outcome c.asked e)) refl

-- of the fronts that an accepted call left
pub reads_back : (c : RewriteCall) (b : Blocks) → refusal_in c.answer ≡ 0
    → Reads (call_of c.asked.schema (fronts_of c) b) c.asked.limit (asked_for c.asked)
reads_back c b z =
    let e = accepted_is c z in
    subst (λ o. Reads (call_of c.asked.schema o b) c.asked.limit (asked_for c.asked))
    (sym (fronts_are c z ∙ accepted_outcome c.asked e))
    (outputs_read c.asked b e)

-- pruning by them can only be refused for its containers, its grid or its answers
pub refusals_left : (c : RewriteCall) (b : Blocks) (d : PruneCall) → refusal_in c.answer ≡ 0 → d.given ≡ call_of c.asked.schema (fronts_of c) b
    → d.answer
    ≡ first_failing
    (test (leb b.containers max_containers && leb b.containers b.room) bad_containers
    ∷ test (grid_fine d.given) bad_grid
    ∷ test (answers_fine b.containers (length (guarantees 0 (asked_for c.asked))) b.answers) bad_answers
    ∷ [])
    0
refusals_left c b d z e =
    let a : Asked = c.asked in
    let k = taken a.schema a.predicate a.pool a.limit a.rooms (accepted_is c z) in
    let r = reads_back c b z in
    let s : schema_fine a.schema ≡ true = rw (le-leb (length a.schema) max_columns k.few, k.types) in
    let f : prune_fault d.given ≡ prune_fault (call_of a.schema (fronts_of c) b) = ap prune_fault e in
    (prune_answered d).refusal_is ∙ f ∙ prune_order (call_of a.schema (fronts_of c) b) ∙ rw (s, r.checked, r.each, e)

-- ---- the flags of a round

-- a container's flag is that of the predicate's rewriting on its cells, and of the answers to the predicate's guarantees
pub round_flags : (x : Round) (i : ℕ) → i < x.blocks.containers
    → let a = x.rewrite.asked in
    let p = predicate_in x in
    flag_byte x i
    ≡ flag_of (worth (cells_in x.prune.given i) (rewritten a.limit a.schema p))
    (answers_drop x.blocks.answers (guarantee_words (guarantees 0 p)) (i * length (guarantees 0 p)))
unfolding flag_in
round_flags x i h =
    let c = x.rewrite in
    let call = call_of c.asked.schema (fronts_of c) x.blocks in
    let r = reads_back c x.blocks x.rewrote in
    let n : x.prune.given.containers ≡ x.blocks.containers = ap (λ (k : Call). k.containers) x.lent_on in
    flag_at x.prune x.pruned i (omega arith) ∙ rw (x.lent_on, r.table, r.promises, r.each)
