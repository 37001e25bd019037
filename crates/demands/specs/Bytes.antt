-- For demand 1, "every byte sequence" (rewriting in proofs/Bytes.antt, pruning here): what every call of the two entries answers and leaves, stated once for both, from their contracts.
-- Assumes nothing.
use Rattle.std.specs.Prelude.{◌≡◌, refl, Bool, true, false, cond, not, ◌&&◌, ◌||◌, ◌⊎◌, ◌↔◌, List, [], ◌∷◌, ℕ, zero, suc, ◌+◌, ◌-◌, ◌*◌, ◌/◌, ◌%◌, ◌^◌, ◌<◌, ◌≤◌, length, get_or, take, drop, eqb, leb}
use Rattle.std.proofs.Common.{sym, ◌∙◌, ap, true≢false, inl, inr, arith, get_or-append-add, get_or-drop, ne_eqb}
use Rattle.std.proofs.Math.ListN.{get_or-append}
use Rattle.limits.specs.Limits.{max_list_limit, max_pool_bytes, max_containers, bad_schema, bad_limit, no_room, malformed, over_limit, misfit, bad_containers, bad_table, bad_grid, bad_answers}
use Rattle.words.specs.Word.{words_of}
use Rattle.words.specs.Layout.{field, Within}
use Rattle.words.specs.LayoutLaws.{field_packed}
use Rattle.words.specs.Stores.{written, take_written, length_written}
use Rattle.kleene.specs.declared.Truth.{Truth}
use Rattle.literals.specs.Literals.{plain, suits}
use Rattle.text.specs.Utf8.{Each}
use Rattle.predicate.specs.declared.Column.{Column}
use Rattle.predicate.specs.declared.Progress.{Progress}
use Rattle.predicate.specs.Checked.{Passed}
use Rattle.predicate.specs.Predicates.{node_at}
use Rattle.predicate.specs.Checking.{schema_fine, type_in, missing, formed, limited, columned, literal_limited, patterned, after_literal, passes, check_literal, node_fault, predicate_fault}
use Rattle.predicate.specs.CheckingLaws.{Fault}
use Rattle.predicate.proofs.CheckingLaws.{predicate_fault_lem}
use Rattle.predicate.specs.Calls.{roomy, rewrite_fault}
use Rattle.table.specs.Worth.{worth}
use Rattle.pruning.specs.TableChecking.{checked_table}
use Rattle.pruning.specs.Cells.{answers_fine}
use Rattle.pruning.specs.Evaluating.{is_false, answers_drop, flag_of}
use Rattle.spill.specs.Rewrite.{Outcome, refuses, writes, outputs, rewriting, answer_layout, table_out, pool_out, statistics_out, guarantees_out}
use Rattle.spill.specs.Prune as Prune
use Rattle.spill.specs.Prune.{Call, flags, pruning, prune_fault, flag_in, flags_from, table_in, grid_fine, flags_out}
use Rattle.spill.specs.Done.{Buffers, Rewrote, Flagged}
use Rattle.spill.specs.Bounds.{prune_taken}
use Rattle.demands.specs.Calls.{Asked, fault_of, outcome_of, asked_for, RewriteCall, PruneCall, refusal_in, table_bytes, pool_bytes, statistics_bytes, guarantees_bytes, cells_in}
use Rattle.demands.specs.Rows.{flags_say}

-- ---- refusals in their order

-- a test of a call, and the refusal where it fails
pub record Test : Type 0 where
  pub passes : Bool
  pub refusal : ℕ

abbrev pub test : Bool → ℕ → Test
test b n = record { passes = b; refusal = n }

-- the first test that fails decides; where all pass, what comes behind them
abbrev pub first_failing : List Test → ℕ → ℕ
first_failing [] rest = rest
first_failing (t ∷ ts) rest = cond t.passes (first_failing ts rest) t.refusal

-- a test with this refusal fails, and every test before it passes
abbrev pub FailsFirst : ℕ → List Test → Type 0
FailsFirst n [] = ⊥
FailsFirst n (t ∷ ts) = ((t.passes ≡ false) × (t.refusal ≡ n)) ⊎ ((t.passes ≡ true) × FailsFirst n ts)

abbrev pub AllPass : List Test → Type 0
AllPass ts = Each (λ t. t.passes ≡ true) ts

abbrev Decides : Test → List Test → ℕ → ℕ → Type 0
Decides t ts rest n = FailsFirst n (t ∷ ts) ⊎ (AllPass (t ∷ ts) × (rest ≡ n))

-- a number is given exactly where its test fails first, or all pass and it comes behind them
pub exactly : (ts : List Test) (rest n : ℕ) → (first_failing ts rest ≡ n) ↔ (FailsFirst n ts ⊎ (AllPass ts × (rest ≡ n)))
exactly [] rest n = (λ e. inr (tt, e), back)
  where
    back : ⊥ ⊎ (Unit {0} × (rest ≡ n)) → rest ≡ n
    back (inl x) = absurd x
    back (inr x) = x.1
exactly (t ∷ ts) rest n = (there t.passes t.refusal (exactly ts rest n).0, back t.passes t.refusal (exactly ts rest n).1)
  where
    further : FailsFirst n ts ⊎ (AllPass ts × (rest ≡ n)) → (m : ℕ) → Decides (test true m) ts rest n
    further (inl x) m = inl (inr (refl, x))
    further (inr x) m = inr ((refl, x.0), x.1)

    there : (b : Bool) (m : ℕ) → (first_failing ts rest ≡ n → FailsFirst n ts ⊎ (AllPass ts × (rest ≡ n)))
        → cond b (first_failing ts rest) m ≡ n → Decides (test b m) ts rest n
    there true m more e = further (more e) m
    there false m more e = inl (inl (refl, e))

    back : (b : Bool) (m : ℕ) → (FailsFirst n ts ⊎ (AllPass ts × (rest ≡ n)) → first_failing ts rest ≡ n)
        → Decides (test b m) ts rest n → cond b (first_failing ts rest) m ≡ n
    back true m more (inl (inl x)) = absurd (true≢false x.0)
    back true m more (inl (inr x)) = more (inl x.1)
    back true m more (inr x) = more (inr (x.0.1, x.1))
    back false m more (inl (inl x)) = x.1
    back false m more (inl (inr x)) = absurd (true≢false (sym x.0))
    back false m more (inr x) = absurd (true≢false (sym x.0.0))

-- rewriting: 1, 2, 3, whole words; behind them the predicate, word by word
abbrev pub rewrite_tests : Asked → List Test
rewrite_tests a =
    test (schema_fine a.schema) bad_schema
    ∷ test (leb a.limit max_list_limit && leb (length a.pool) max_pool_bytes) bad_limit
    ∷ test (roomy a.rooms) no_room
    ∷ test (eqb (length a.predicate % 8) 0) malformed
    ∷ []

pub rewrite_order : (a : Asked) → fault_of a ≡ first_failing (rewrite_tests a) (predicate_fault a.schema a.pool (words_of a.predicate))
unfolding rewrite_fault
rewrite_order a = refl

or_missing : (b : Bool) (x n : ℕ) → cond b n x ≡ cond (not b) x n
or_missing true x n = refl
or_missing false x n = refl

-- in a node's word 4 before 5 before 6, a missing word first
pub word_order : (schema pool ws : List ℕ) (depth : ℕ) (s : Progress)
    → node_fault schema pool ws depth s
    ≡ first_failing
    (test (not (missing ws s)) malformed
    ∷ test (formed (get_or ws s.place 0)) malformed
    ∷ test (limited depth s (get_or ws s.place 0)) over_limit
    ∷ test (columned schema (node_at pool ws s.place)) misfit
    ∷ [])
    0
unfolding node_fault
word_order schema pool ws depth s = or_missing (missing ws s) _ malformed

-- and in a literal's
pub literal_order : (schema pool ws : List ℕ) (pattern : Bool) (c : Column) (s : Progress)
    → check_literal schema pool ws pattern c s
    ≡ passes
    (first_failing
    (test (not (missing ws s)) malformed
    ∷ test (plain (get_or ws s.place 0)) malformed
    ∷ test (literal_limited s (get_or ws s.place 0)) over_limit
    ∷ test (suits pool (type_in schema c.0) (get_or ws s.place 0) && patterned pattern pool (get_or ws s.place 0)) misfit
    ∷ [])
    0)
    (Passed (after_literal s (get_or ws s.place 0)))
unfolding check_literal
literal_order schema pool ws pattern c s =
    ap (λ (n : ℕ). passes n (Passed (after_literal s (get_or ws s.place 0)))) (or_missing (missing ws s) _ malformed)

-- pruning: 1, 7, 8, 9, 10
abbrev pub prune_tests : Call → List Test
prune_tests c =
    test (schema_fine c.schema) bad_schema
    ∷ test (leb c.containers max_containers && leb c.containers c.room) bad_containers
    ∷ test (checked_table c.schema c.table c.pool c.statistics c.guarantees) bad_table
    ∷ test (grid_fine c) bad_grid
    ∷ test (answers_fine c.containers (length c.guarantees / 8) c.answers) bad_answers
    ∷ []

pub prune_order : (c : Call) → prune_fault c ≡ first_failing (prune_tests c) 0
unfolding prune_fault
prune_order c = refl

-- ---- what a call leaves

-- a lent buffer of an answered call: how many bytes the answer counts, which the definition gives, what it held and what it holds
pub record Lent : Type 0 where
  pub counted : ℕ
  pub front : List ℕ
  pub old : List ℕ
  pub new : List ℕ

abbrev pub lent : ℕ → List ℕ → List ℕ → List ℕ → Lent
lent n front old new = record { counted = n; front = front; old = old; new = new }

-- nothing counted, nothing changed
abbrev pub Untouched : Lent → Type 0
Untouched b = (b.counted ≡ 0) × (b.new ≡ b.old)

-- the counted front is the definition's, and nothing else changed
pub record Fronted (b : Lent) : Type 0 where
  pub within : b.counted ≤ length b.old
  pub same_length : length b.new ≡ length b.old
  pub front : take b.counted b.new ≡ b.front
  pub behind : (i : ℕ) → b.counted ≤ i → get_or b.new i 0 ≡ get_or b.old i 0

-- an answered call, by the definition's fault, the refusal that it answers, and its buffers
pub record Answered (fault refusal : ℕ) (buffers : List Lent) : Type 0 where
  pub refusal_is : refusal ≡ fault
  pub refused : (fault ≡ 0 → ⊥) → Each Untouched buffers
  pub accepted : fault ≡ 0 → Each Fronted buffers

-- a buffer whose front was overwritten
fronted : (n : ℕ) (front old new : List ℕ) → n ≡ length front → length front ≤ length old → new ≡ written front old → Fronted (lent n front old new)
fronted n front old new e h d =
    record {
      within = omega arith;
      same_length = ap length d ∙ length_written front old h;
      front = rw (e, d) (take_written front old);
      behind = λ i k. rw d (after i (omega arith));
    }
  where
    after : (i : ℕ) → length front ≤ i → get_or (written front old) i 0 ≡ get_or old i 0
    after i k =
        let j : ℕ = i - length front in
        let q : i ≡ length front + j = omega arith in
        rw q (get_or-append-add front (drop (length front) old) j 0 ∙ get_or-drop (length front) old j 0)

-- ---- rewriting

abbrev pub buffers_of : Outcome → Buffers → Buffers → ℕ → List Lent
buffers_of o old new r =
    lent (table_bytes r) (table_out o) old.table new.table
    ∷ lent (pool_bytes r) (pool_out o) old.pool new.pool
    ∷ lent (statistics_bytes r) (statistics_out o) old.statistics new.statistics
    ∷ lent (guarantees_bytes r) (guarantees_out o) old.guarantees new.guarantees
    ∷ []

-- the four buffers, each with the count that the answer word names
abbrev pub rewrite_buffers : RewriteCall → List Lent
rewrite_buffers c = buffers_of (outcome_of c.asked) c.old c.new c.answer

-- every fault of rewriting is at most 6
first_most : (ts : List Test) (rest m : ℕ) → Each (λ t. t.refusal ≤ m) ts → rest ≤ m → first_failing ts rest ≤ m
first_most [] rest m h k = k
first_most (t ∷ ts) rest m h k = go t.passes (first_most ts rest m h.1 k)
  where
    go : (b : Bool) → first_failing ts rest ≤ m → cond b (first_failing ts rest) t.refusal ≤ m
    go true more = more
    go false more = h.0

fault_most : (n : ℕ) → Fault n → n ≤ misfit
fault_most n (inl e) = omega arith
fault_most n (inr h) = h.1

pub rewrite_most : (a : Asked) → fault_of a ≤ misfit
rewrite_most a =
    rw (rewrite_order a)
    (first_most (rewrite_tests a) (predicate_fault a.schema a.pool (words_of a.predicate)) misfit (omega arith, (omega arith, (omega arith, (omega arith, tt))))
    (fault_most _ (predicate_fault_lem a.schema a.pool (words_of a.predicate))))

-- the answer word of a refusal
pub refused_by : (n : ℕ) (old new : Buffers) (r : ℕ) → n ≤ misfit → Rewrote (refuses n) old new r
    → (refusal_in r ≡ n) × Each Untouched (buffers_of (refuses n) old new r)
refused_by n old new r h d =
    let vs : List ℕ = n ∷ 0 ∷ 0 ∷ 0 ∷ 0 ∷ 0 ∷ [] in
    let w : Within answer_layout vs = (omega arith, (omega arith, (omega arith, (omega arith, (omega arith, (omega arith, tt)))))) in
    let f : (i : ℕ) → field answer_layout i r ≡ get_or vs i 0 = λ i. ap (field answer_layout i) d.answer ∙ field_packed answer_layout vs i w in
    (f 0, ((ap (λ (k : ℕ). 8 * k) (f 1), d.table), ((f 2, d.pool), ((ap (λ (k : ℕ). 8 * k) (f 3), d.statistics), ((ap (λ (k : ℕ). 8 * k) (f 4), d.guarantees), tt)))))

-- the answer word of outputs that keep their bounds
module _ (t p s g : List ℕ) (i j k : ℕ) (old new : Buffers) (r : ℕ) where
  pub done_by : length t ≡ 8 * i → length s ≡ 8 * j → length g ≡ 8 * k → i < 2 ^ 16 → length p < 2 ^ 16 → j < 2 ^ 8 → k < 2 ^ 8
      → length t ≤ length old.table → length p ≤ length old.pool → length s ≤ length old.statistics → length g ≤ length old.guarantees
      → Rewrote (writes t p s g) old new r → (refusal_in r ≡ 0) × Each Fronted (buffers_of (writes t p s g) old new r)
  done_by et es eg hi hp hj hk rt rp rs rg d =
      let vs : List ℕ = 0 ∷ length t / 8 ∷ length p ∷ length s / 8 ∷ length g / 8 ∷ 0 ∷ [] in
      let w : Within answer_layout vs = (omega arith, (omega arith, (hp, (omega arith, (omega arith, (omega arith, tt)))))) in
      let f : (n : ℕ) → field answer_layout n r ≡ get_or vs n 0 = λ n. ap (field answer_layout n) d.answer ∙ field_packed answer_layout vs n w in
      let a : table_bytes r ≡ length t = ap (λ (x : ℕ). 8 * x) (f 1) ∙ omega arith in
      let b : statistics_bytes r ≡ length s = ap (λ (x : ℕ). 8 * x) (f 3) ∙ omega arith in
      let c : guarantees_bytes r ≡ length g = ap (λ (x : ℕ). 8 * x) (f 4) ∙ omega arith in (
        f 0,
        (
          fronted (table_bytes r) t old.table new.table a rt d.table,
          (
            fronted (pool_bytes r) p old.pool new.pool (f 2) rp d.pool,
            (fronted (statistics_bytes r) s old.statistics new.statistics b rs d.statistics, (fronted (guarantees_bytes r) g old.guarantees new.guarantees c rg d.guarantees, tt)),
          ),
        ),
      )

pub refused_outcome : (a : Asked) (n : ℕ) → fault_of a ≡ suc n → outcome_of a ≡ refuses (suc n)
unfolding rewriting
refused_outcome a n e = rw e

pub accepted_outcome : (a : Asked) → fault_of a ≡ 0 → outcome_of a ≡ outputs a.limit a.schema (asked_for a)
unfolding rewriting
accepted_outcome a e = rw e

-- ---- pruning

-- as many flags as containers are counted, none on a refusal
abbrev pub prune_buffers : PruneCall → List Lent
prune_buffers c = lent (cond (eqb c.answer 0) c.given.containers 0) (flags_out (pruning c.given)) c.old c.new ∷ []

length_flags : (c : Call) (i n : ℕ) → length (flags_from c i n) ≡ n
unfolding flags_from
length_flags c i zero = refl
length_flags c i (suc n) = ap suc (length_flags c (i + 1) n)

refused_pruning : (c : Call) (n : ℕ) → prune_fault c ≡ suc n → pruning c ≡ Prune.refuses (suc n)
unfolding pruning
refused_pruning c n e = rw e

pub accepted_pruning : (c : Call) → prune_fault c ≡ 0 → pruning c ≡ flags (flags_from c 0 c.containers)
unfolding pruning
accepted_pruning c e = rw e

-- every call of pruning
pub prune_answered : (c : PruneCall) → Answered (prune_fault c.given) c.answer (prune_buffers c)
prune_answered c = go (prune_fault c.given) refl c.contract
  where
    go : (n : ℕ) → prune_fault c.given ≡ n → Flagged (pruning c.given) c.old c.new c.answer → Answered n c.answer (prune_buffers c)
    go zero e d =
        let k = (prune_taken c.given e).room in
        let r = c.room in
        let o = accepted_pruning c.given e in
        let fs : List ℕ = flags_from c.given 0 c.given.containers in
        let l = length_flags c.given 0 c.given.containers in
        let q : c.answer ≡ 0 = d.result ∙ ap Prune.result_of o in
        record {
          refusal_is = q;
          refused = λ h. absurd (h refl);
          accepted = λ z. (rw (q, o) (fronted c.given.containers fs c.old c.new (sym l) (omega arith) (d.flags ∙ ap (λ p. written (flags_out p) c.old) o)), tt);
        }
    go (suc n) e d =
        let o = refused_pruning c.given n e in
        let q : c.answer ≡ suc n = d.result ∙ ap Prune.result_of o in
        record {
          refusal_is = q;
          refused = λ h. ((rw (q, ne_eqb (suc n) 0 (λ z. omega arith)), d.flags ∙ ap (λ p. written (flags_out p) c.old) o), tt);
          accepted = λ z. absurd (omega arith);
        }

pub prune_given : (c : PruneCall) (n : ℕ) → (c.answer ≡ n) ↔ (FailsFirst n (prune_tests c.given) ⊎ (AllPass (prune_tests c.given) × (0 ≡ n)))
prune_given c n = rw ((prune_answered c).refusal_is, prune_order c.given) (exactly (prune_tests c.given) 0 n)

-- a flag of an accepted call stands at its container's number
pub flag_at : (c : PruneCall) → c.answer ≡ 0 → (i : ℕ) → i < c.given.containers → get_or c.new i 0 ≡ flag_in c.given i
flag_at c z i h =
    let e : prune_fault c.given ≡ 0 = sym (prune_answered c).refusal_is ∙ z in
    let fs : List ℕ = flags_from c.given 0 c.given.containers in
    let o : pruning c.given ≡ flags fs = accepted_pruning c.given e in
    let l = length_flags c.given 0 c.given.containers in
    ap (λ l. get_or l i 0) (c.contract.flags ∙ ap (λ p. written (flags_out p) c.old) o)
    ∙ get_or-append fs (drop (length fs) c.old) 0 i (omega arith)
    ∙ sym (flags_say c.given fs i 0 o h).1

-- and is 0 or 1
pub flag_bit : (c : PruneCall) → c.answer ≡ 0 → (i : ℕ) → i < c.given.containers → (get_or c.new i 0 ≡ 0) ⊎ (get_or c.new i 0 ≡ 1)
unfolding flag_in
flag_bit c z i h =
    let d : Call = c.given in
    rw (flag_at c z i h) (bit (worth (cells_in d i) (table_in d)) (answers_drop d.answers (words_of d.guarantees) (i * (length d.guarantees / 8))))
  where
    go : (b : Bool) → (◌≡◌ {A = ℕ} (cond b 0 1) 0) ⊎ (◌≡◌ {A = ℕ} (cond b 0 1) 1)
    go true = inl refl
    go false = inr refl

    bit : (t : Truth) (b : Bool) → (flag_of t b ≡ 0) ⊎ (flag_of t b ≡ 1)
    bit t b = go (is_false t || b)
