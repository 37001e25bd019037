-- Demand 1, "every byte sequence", of rewriting: what every call answers and leaves, from its contract. Assumes nothing.
use Rattle.std.specs.Prelude.{◌≡◌, refl, ◌⊎◌, ◌↔◌, List, ℕ, zero, suc, length}
use Rattle.std.proofs.Common.{sym, ap, subst, arith}
use Rattle.words.specs.Word.{words_of, bytes_of}
use Rattle.words.specs.WordLaws.{length_bytes}
use Rattle.text.specs.Utf8.{Each}
use Rattle.predicate.specs.Checking.{predicate_fault}
use Rattle.predicate.specs.declared.Rooms.{Rooms}
use Rattle.statistics.specs.declared.Statistic.{Statistic}
use Rattle.statistics.specs.Statistics.{statistic_words}
use Rattle.statistics.specs.ListLaws.{length_statistics}
use Rattle.table.specs.Tables.{Table}
use Rattle.table.specs.Rewriting.{rewritten, statistics}
use Rattle.table.specs.Encoding.{table_words, pool_of}
use Rattle.guarantees.specs.Guarantees.{Guarantee, guarantees, guarantee_words}
use Rattle.guarantees.specs.GuaranteeLaws.{length_guarantees}
use Rattle.spill.specs.Done.{Rewrote}
use Rattle.spill.specs.Bounds.{taken, call_bounded}
use Rattle.demands.specs.Calls.{Asked, fault_of, asked_for, RewriteCall, refusal_in}
use Rattle.demands.specs.Bytes.{AllPass, Answered, FailsFirst, Fronted, Untouched, accepted_outcome, buffers_of, done_by, exactly, refused_by, refused_outcome, rewrite_buffers, rewrite_most, rewrite_order, rewrite_tests}

accepted_by : (c : RewriteCall) → fault_of c.asked ≡ 0 → (refusal_in c.answer ≡ 0) × Each Fronted (rewrite_buffers c)
accepted_by c e =
    let a : Asked = c.asked in
    let k = taken a.schema a.predicate a.pool a.limit a.rooms e in
    let b = call_bounded a.schema a.predicate a.pool a.limit a.rooms e in
    let t : Table = rewritten a.limit a.schema (asked_for a) in
    let list : List Statistic = statistics a.limit a.schema (asked_for a) in
    let gs : List Guarantee = guarantees 0 (asked_for a) in
    let lt = length_bytes (table_words list 0 t) in
    let ls = length_bytes (statistic_words list) in
    let lg = length_bytes (guarantee_words gs) in
    let ns = length_statistics list in
    let ng = length_guarantees gs in
    let rt : a.rooms.table ≡ length c.old.table = ap (λ (r : Rooms). r.table) c.rooms in
    let rp : a.rooms.pool ≡ length c.old.pool = ap (λ (r : Rooms). r.pool) c.rooms in
    let rs : a.rooms.statistics ≡ length c.old.statistics = ap (λ (r : Rooms). r.statistics) c.rooms in
    let rg : a.rooms.guarantees ≡ length c.old.guarantees = ap (λ (r : Rooms). r.guarantees) c.rooms in
    let bt = b.table in
    let bp = b.pool in
    let bs = b.statistics in
    let bg = b.guarantees in
    let kt = k.table in
    let kp = k.table_pool in
    let ks = k.statistics in
    let kg = k.guarantees in
    subst (λ o. Rewrote o c.old c.new c.answer → (refusal_in c.answer ≡ 0) × Each Fronted (buffers_of o c.old c.new c.answer))
    (sym (accepted_outcome a e))
    (done_by (bytes_of (table_words list 0 t)) (pool_of t) (bytes_of (statistic_words list)) (bytes_of (guarantee_words gs)) (length (table_words list 0 t)) (length (statistic_words list)) (length (guarantee_words gs)) c.old c.new c.answer
    lt ls lg (omega arith) (omega arith) (omega arith) (omega arith) (omega arith) (omega arith) (omega arith) (omega arith))
    c.contract

refused_call : (c : RewriteCall) (n : ℕ) → fault_of c.asked ≡ suc n → (refusal_in c.answer ≡ suc n) × Each Untouched (rewrite_buffers c)
refused_call c n e =
    let m = rewrite_most c.asked in
    subst (λ o. Rewrote o c.old c.new c.answer → (refusal_in c.answer ≡ suc n) × Each Untouched (buffers_of o c.old c.new c.answer))
    (sym (refused_outcome c.asked n e))
    (refused_by (suc n) c.old c.new c.answer (omega arith))
    c.contract

-- every call of rewriting
pub rewrite_answered : (c : RewriteCall) → Answered (fault_of c.asked) (refusal_in c.answer) (rewrite_buffers c)
rewrite_answered c = go (fault_of c.asked) refl
  where
    go : (n : ℕ) → fault_of c.asked ≡ n → Answered n (refusal_in c.answer) (rewrite_buffers c)
    go zero e = let d = accepted_by c e in record { refusal_is = d.0; refused = λ h. absurd (h refl); accepted = λ z. d.1 }
    go (suc n) e = let d = refused_call c n e in record { refusal_is = d.0; refused = λ h. d.1; accepted = λ z. absurd (omega arith) }

-- its refusal, exactly
pub rewrite_given : (c : RewriteCall) (n : ℕ)
    → (refusal_in c.answer ≡ n)
    ↔ (FailsFirst n (rewrite_tests c.asked)
    ⊎ (AllPass (rewrite_tests c.asked) × (predicate_fault c.asked.schema c.asked.pool (words_of c.asked.predicate) ≡ n)))
rewrite_given c n =
    let a : Asked = c.asked in
    rw ((rewrite_answered c).refusal_is, rewrite_order a) (exactly (rewrite_tests a) (predicate_fault a.schema a.pool (words_of a.predicate)) n)
