-- What was asked to be proved: three demands, each as a statement; the proofs stand in proofs/Demands.antt. A RewriteCall or a PruneCall is any call of spill_rewrite
-- or spill_prune with its contract; a Round is pruning by the fronts that rewriting left (Calls.antt). Assumes nothing.
use Rattle.std.specs.Prelude.{◌≡◌, false, ◌&&◌, ◌⊎◌, ◌↔◌, List, [], ◌∷◌, ℕ, ◌+◌, ◌*◌, ◌/◌, ◌%◌, ◌<◌, length, get_or, eqb, leb}
use Rattle.limits.specs.Limits.{max_list_limit, max_pool_bytes, max_containers, bad_schema, bad_limit, no_room, malformed, bad_containers, bad_table, bad_grid, bad_answers}
use Rattle.words.specs.Word.{words_of}
use Rattle.operators.specs.declared.Operator.{Operator}
use Rattle.kleene.specs.declared.Truth.TheVariants.{True}
use Rattle.literals.specs.Literals.{Value, null, type_of, null_type, integer_type}
use Rattle.predicate.specs.declared.Column.{Column}
use Rattle.predicate.specs.Predicates.{comparison}
use Rattle.predicate.specs.Checking.{schema_fine, type_in, predicate_fault}
use Rattle.predicate.specs.Calls.{roomy}
use Rattle.predicate.specs.Meaning.{Row, meaning}
use Rattle.predicate.specs.Rows.{In}
use Rattle.statistics.specs.declared.Statistic.{Statistic}
use Rattle.statistics.specs.Statistics.{place_of}
use Rattle.table.specs.Rewriting.{rewritten}
use Rattle.table.specs.Worth.{Cells, worth}
use Rattle.table.specs.Fitting.{FitCells}
use Rattle.guarantees.specs.Guarantees.{guarantees, guarantee_words}
use Rattle.pruning.specs.TableChecking.{checked_table}
use Rattle.pruning.specs.Cells.{answers_fine}
use Rattle.pruning.specs.Evaluating.{answers_drop, flag_of}
use Rattle.spill.specs.Prune.{Call, flags, pruning, grid_fine, list_in}
use Rattle.spill.specs.Done.{Buffers}
use Rattle.spill.specs.Rewriting.{rooms_of}
use Rattle.demands.specs.Calls.{Asked, fault_of, outcome_of, asked_for, Blocks, call_of, cells_in, RewriteCall, PruneCall, refusal_in, fronts_of, Round, predicate_in, flag_byte}
use Rattle.demands.specs.Bytes.{test, first_failing, FailsFirst, AllPass, rewrite_tests, prune_tests, Answered, rewrite_buffers, prune_buffers}
use Rattle.demands.specs.Predicates.{Reads}
use Rattle.demands.specs.Rows.{Fit}
use Rattle.demands.specs.Sharp.{Literal, Possible, Possibly}

-- ---- 1. every byte sequence

-- Both entries answer: whatever the bytes, a call has an outcome that meets its contract, which asks nothing of the caller.
abbrev pub Answering : Type 0
Answering =
    ((a : Asked) (old : Buffers) → a.rooms ≡ rooms_of old → (c : RewriteCall) × (c.asked ≡ a) × (c.old ≡ old))
    × ((g : Call) (old : List ℕ) → g.room ≡ length old → (c : PruneCall) × (c.given ≡ g) × (c.old ≡ old))

-- A malformed call gets the refusal of the first test that fails, in document 01's order; a refusal counts nothing and leaves every
-- buffer as it was; an accepted call changes only the counted fronts, to the definition's bytes; flags are 0 or 1.
abbrev pub EveryByteSequence : Type 0
EveryByteSequence =
    ((c : RewriteCall)
    → Answered
    (first_failing
    (test (schema_fine c.asked.schema) bad_schema
    ∷ test (leb c.asked.limit max_list_limit && leb (length c.asked.pool) max_pool_bytes) bad_limit
    ∷ test (roomy c.asked.rooms) no_room
    ∷ test (eqb (length c.asked.predicate % 8) 0) malformed
    ∷ [])
    (predicate_fault c.asked.schema c.asked.pool (words_of c.asked.predicate)))
    (refusal_in c.answer) (rewrite_buffers c))
    × ((c : PruneCall)
    → Answered
    (first_failing
    (test (schema_fine c.given.schema) bad_schema
    ∷ test (leb c.given.containers max_containers && leb c.given.containers c.given.room) bad_containers
    ∷ test (checked_table c.given.schema c.given.table c.given.pool c.given.statistics c.given.guarantees) bad_table
    ∷ test (grid_fine c.given) bad_grid
    ∷ test (answers_fine c.given.containers (length c.given.guarantees / 8) c.given.answers) bad_answers
    ∷ [])
    0)
    c.answer (prune_buffers c))
    × ((c : PruneCall) → c.answer ≡ 0 → (i : ℕ) → i < c.given.containers → (get_or c.new i 0 ≡ 0) ⊎ (get_or c.new i 0 ≡ 1))

-- A refusal is given exactly where its test fails and all before it pass; behind rewriting's tests stands the fault of the predicate
-- (in a word of it: word_order, literal_order).
abbrev pub InOrder : Type 0
InOrder =
    ((c : RewriteCall) (n : ℕ)
    → (refusal_in c.answer ≡ n)
    ↔ (FailsFirst n (rewrite_tests c.asked)
    ⊎ (AllPass (rewrite_tests c.asked) × (predicate_fault c.asked.schema c.asked.pool (words_of c.asked.predicate) ≡ n))))
    × ((c : PruneCall) (n : ℕ) → (c.answer ≡ n) ↔ (FailsFirst n (prune_tests c.given) ⊎ (AllPass (prune_tests c.given) × (0 ≡ n))))

-- ---- 2. every predicate

-- The outcome of each entry is the definition's and no other.
abbrev pub OneOutcome : Type 0
OneOutcome =
    ((c d : RewriteCall) → c.asked ≡ d.asked → c.old ≡ d.old → (c.answer ≡ d.answer) × (c.new ≡ d.new))
    × ((c d : PruneCall) → c.given ≡ d.given → c.old ≡ d.old → (c.answer ≡ d.answer) × (c.new ≡ d.new))

-- What rewriting writes, read back, is the rewriting of the predicate; pruning by it gives the definition's flags.
abbrev pub EveryPredicate : Type 0
EveryPredicate =
    ((c : RewriteCall) (b : Blocks) → refusal_in c.answer ≡ 0
    → Reads (call_of c.asked.schema (fronts_of c) b) c.asked.limit (asked_for c.asked))
    × ((x : Round) (i : ℕ) → i < x.blocks.containers
    → flag_byte x i
    ≡ flag_of (worth (cells_in x.prune.given i) (rewritten x.rewrite.asked.limit x.rewrite.asked.schema (predicate_in x)))
    (answers_drop x.blocks.answers (guarantee_words (guarantees 0 (predicate_in x))) (i * length (guarantees 0 (predicate_in x)))))

-- ---- 3. every set of rows

-- A dropped block whose cells and answers are true of some rows has no row for which the predicate is true: of the definitions,
abbrev pub DropsNoMatch : Type 0
DropsNoMatch =
    (a : Asked) (b : Blocks) (fs : List ℕ) → fault_of a ≡ 0 → pruning (call_of a.schema (outcome_of a) b) ≡ flags fs
    → (i : ℕ) → i < b.containers → get_or fs i 1 ≡ 0
    → (rows : List Row) → Fit (call_of a.schema (outcome_of a) b) (asked_for a) i rows
    → (r : Row) → In r rows → meaning r (asked_for a) ≡ True → ⊥

-- and of the entries.
abbrev pub EntriesDropNoMatch : Type 0
EntriesDropNoMatch =
    (x : Round) (i : ℕ) → i < x.blocks.containers → flag_byte x i ≡ 0
    → (rows : List Row) → Fit x.prune.given (predicate_in x) i rows → (r : Row) → In r rows → meaning r (predicate_in x) ≡ True → ⊥

-- Whatever statistics are missing: a grid word of type 0 is an absent cell, and rows that fit cells fit them with any of them absent.
abbrev pub WhateverIsMissing : Type 0
WhateverIsMissing =
    ((c : Call) (i : ℕ) (s : Statistic) → type_of (get_or (words_of c.grid) (i * length (list_in c) + place_of s (list_in c)) 0) ≡ null_type → cells_in c i s ≡ null)
    × ((cells fewer : Cells) (rows : List Row) → ((s : Statistic) → (fewer s ≡ null) ⊎ (fewer s ≡ cells s)) → FitCells cells rows → FitCells fewer rows)

-- Nothing better was possible. One integer comparison, column first, no flips, its literal not null unless the operator is a
-- distinct-from; no answers; every statistic asked for present, least ≤ greatest, blanks ≤ rows, at least one row. If the block is kept,
-- some rows that fit its cells hold a match: of the definitions,
abbrev pub NothingBetter : Type 0
NothingBetter =
    (a : Asked) (b : Blocks) (fs : List ℕ) → fault_of a ≡ 0 → pruning (call_of a.schema (outcome_of a) b) ≡ flags fs
    → (i : ℕ) → i < b.containers → get_or fs i 0 ≡ 1 → b.answers ≡ []
    → (o : Operator) (c : Column) (v : Value) → asked_for a ≡ comparison o c 0 false v → type_in a.schema c.0 ≡ integer_type → Literal o v
    → Possible c (cells_in (call_of a.schema (outcome_of a) b) i) (list_in (call_of a.schema (outcome_of a) b))
    → Possibly (call_of a.schema (outcome_of a) b) (asked_for a) i

-- and of the entries.
abbrev pub EntriesNothingBetter : Type 0
EntriesNothingBetter =
    (x : Round) (i : ℕ) → i < x.blocks.containers → flag_byte x i ≡ 1 → x.blocks.answers ≡ []
    → (o : Operator) (c : Column) (v : Value) → predicate_in x ≡ comparison o c 0 false v → type_in x.rewrite.asked.schema c.0 ≡ integer_type → Literal o v
    → Possible c (cells_in x.prune.given i) (list_in x.prune.given) → Possibly x.prune.given (predicate_in x) i
