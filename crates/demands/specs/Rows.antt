-- For demand 3, first half, "every set of rows" (proofs/Rows.antt): a dropped block whose cells and answers are true of some rows has no row for which the
-- predicate is true, whatever statistics are missing. From rewriting's call and pruning's call to rows. Assumes nothing.
use Rattle.std.specs.Prelude.{◌≡◌, refl, Bool, true, false, cond, ◌||◌, ◌⊎◌, List, [], ◌∷◌, ℕ, zero, suc, ◌+◌, ◌*◌, ◌/◌, ◌<◌, length, get_or, eqb}
use Rattle.std.proofs.Common.{sym, ◌∙◌, subst, true≢false, inl, inr, add-zero, zero-add, arith}
use Rattle.std.proofs.Math.Path.{ap}
use Rattle.std.proofs.Math.Logic.{⊎_elim}
use Rattle.words.specs.Word.{words_of}
use Rattle.words.specs.WordLaws.{words_bytes}
use Rattle.kleene.specs.declared.Truth.{Truth}
use Rattle.kleene.specs.declared.Truth.TheVariants.{False, Unknown, True}
use Rattle.kleene.specs.TruthLaws.{Refutes}
use Rattle.literals.specs.Literals.{bit_of}
use Rattle.predicate.specs.Predicates.{Predicate}
use Rattle.predicate.specs.Meaning.{Row, meaning}
use Rattle.predicate.specs.Rows.{In, RowOf}
use Rattle.table.specs.Rewriting.{rewritten, statistics}
use Rattle.table.specs.Worth.{worth}
use Rattle.table.specs.Fitting.{FitCells}
use Rattle.table.proofs.Soundness.{rewriting_sound}
use Rattle.guarantees.specs.Guarantees.{Guarantee, guarantees, guarantee_words, answer_drops}
use Rattle.guarantees.specs.GuaranteeLaws.{AllSmall, guarantee_not_in, guarantees_below}
use Rattle.guarantees.specs.Fitting.{FitAnswer}
use Rattle.guarantees.specs.Soundness.{Each, KeepsRow, guarantees_keep, answer_sound}
use Rattle.limits.specs.Limits.{max_table_depth}
use Rattle.pruning.specs.TableReading.{table_at}
use Rattle.pruning.specs.Evaluating.{is_false, answers_drop, flag_of}
use Rattle.spill.specs.Rewrite.{rewriting, outputs}
use Rattle.spill.specs.Prune.{Call, flags, pruning, prune_fault, flag_in, flags_from, list_in, table_in, unless_fault}
use Rattle.demands.specs.Calls.{Asked, fault_of, outcome_of, asked_for, Blocks, call_of, cells_in}
use Rattle.spill.specs.Bounds.{taken, call_bounded, call_list, call_table}

-- ---- rows that fit

abbrev pub FitAnswers : List ℕ → List Guarantee → ℕ → List Row → Type 0
FitAnswers answers [] at rows = Unit {0}
FitAnswers answers (g ∷ gs) at rows = FitAnswer g (get_or answers at 0) rows × FitAnswers answers gs (at + 1) rows

-- rows of the schema that fit a container's cells and answers
pub record Fit (c : Call) (p : Predicate) (i : ℕ) (rows : List Row) : Type 0 where
  pub typed : (r : Row) → In r rows → RowOf c.schema r
  pub cells : FitCells (cells_in c i) rows
  pub answers : FitAnswers c.answers (guarantees 0 p) (i * (length c.guarantees / 8)) rows

-- ---- the flag of a container

-- flags stand in the order of the containers
flags_from_lem : (c : Call) (k n i d : ℕ) → i < n → get_or (flags_from c k n) i d ≡ flag_in c (k + i)
unfolding flags_from
flags_from_lem c k zero i d h = absurd (omega arith)
flags_from_lem c k (suc n) zero d h = ap (flag_in c) (sym (add-zero k))
flags_from_lem c k (suc n) (suc i) d h = flags_from_lem c (k + 1) n i d (omega arith) ∙ ap (flag_in c) (omega arith)

same_flags : (n : ℕ) (fs gs : List ℕ) → unless_fault n (flags fs) ≡ flags gs → (n ≡ 0) × (fs ≡ gs)
same_flags zero fs gs e = (refl, cc)
same_flags (suc n) fs gs e = (cc, cc)

-- a call that gives flags has no fault, and each container's flag stands at its number
pub flags_say : (c : Call) (fs : List ℕ) (i d : ℕ) → pruning c ≡ flags fs → i < c.containers → (prune_fault c ≡ 0) × (flag_in c i ≡ get_or fs i d)
unfolding pruning
flags_say c fs i d e h =
    let q = same_flags (prune_fault c) (flags_from c 0 c.containers) fs e in
    (q.0, ap (flag_in c) (sym (zero-add i)) ∙ (sym (flags_from_lem c 0 c.containers i d h) ∙ ap (λ l. get_or l i d) q.1))

false_is : (t : Truth) → is_false t ≡ true → t ≡ False
false_is False e = refl
false_is Unknown e = absurd (true≢false (sym e))
false_is True e = absurd (true≢false (sym e))

-- a container is dropped by its table or by an answer
dropped : (t : Truth) (b : Bool) → flag_of t b ≡ 0 → (t ≡ False) ⊎ (b ≡ true)
dropped t b e = go (is_false t) b refl e
  where
    go : (x y : Bool) → is_false t ≡ x → ◌≡◌ {A = ℕ} (cond (x || y) 0 1) 0 → (t ≡ False) ⊎ (y ≡ true)
    go true y q e = inl (false_is t q)
    go false true q e = inr refl
    go false false q e = let z : ◌≡◌ {A = ℕ} 0 1 = sym e in absurd (omega arith)

bit_test : (b : Bool) → eqb (bit_of b) 1 ≡ b
bit_test true = refl
bit_test false = refl

-- an answer that drops leaves no row that every guarantee keeps
answers_sound : (answers : List ℕ) (gs : List Guarantee) (at : ℕ) (rows : List Row) (r : Row) → AllSmall gs → FitAnswers answers gs at rows → In r rows
    → Each (KeepsRow r) gs → answers_drop answers (guarantee_words gs) at ≡ true → ⊥
unfolding answers_drop
answers_sound answers [] at rows r small fit i keep d = true≢false (sym d)
answers_sound answers (g ∷ gs) at rows r small fit i keep d =
    go (answer_drops g.not_in (get_or answers at 0)) refl (answers_sound answers gs (at + 1) rows r small.1 fit.1 i keep.1)
    (rw (guarantee_not_in g small.0, bit_test g.not_in) at d)
  where
    go : (x : Bool) → answer_drops g.not_in (get_or answers at 0) ≡ x → (answers_drop answers (guarantee_words gs) (at + 1) ≡ true → ⊥)
        → (x || answers_drop answers (guarantee_words gs) (at + 1)) ≡ true → ⊥
    go true q more e = answer_sound g (get_or answers at 0) rows r fit.0 i q keep.0
    go false q more e = more e

-- ---- the demand

module _ (a : Asked) (b : Blocks) (taken-call : fault_of a ≡ 0) where
  -- an accepted call's outcome is its outputs
  pub accepted_writes : outcome_of a ≡ outputs a.limit a.schema (asked_for a)
  unfolding rewriting
  accepted_writes = rw taken-call

  unfoldable pub written : Call
  written = call_of a.schema (outputs a.limit a.schema (asked_for a)) b

  pub list_back : list_in written ≡ statistics a.limit a.schema (asked_for a)
  unfolding written
  list_back = call_list a.schema a.predicate a.pool a.limit a.rooms taken-call

  -- pruning reads the table that rewriting wrote
  pub table_back : table_in written ≡ rewritten a.limit a.schema (asked_for a)
  unfolding written
  table_back =
      ap (λ l. (table_at l written.pool (words_of written.table) max_table_depth 0).table) list_back
      ∙ call_table a.schema a.predicate a.pool a.limit a.rooms taken-call

  pub words_back : words_of written.guarantees ≡ guarantee_words (guarantees 0 (asked_for a))
  unfolding written
  words_back =
      let s = (call_bounded a.schema a.predicate a.pool a.limit a.rooms taken-call).small in
      words_bytes (guarantee_words (guarantees 0 (asked_for a))) (guarantees_below (guarantees 0 (asked_for a)) s)

  pub written_sound : (i : ℕ) (rows : List Row) → Fit written (asked_for a) i rows → flag_in written i ≡ 0 → (r : Row) → In r rows
      → meaning r (asked_for a) ≡ True → ⊥
  unfolding written flag_in Refutes
  written_sound i rows fit e r here true_of =
      let k = taken a.schema a.predicate a.pool a.limit a.rooms taken-call in
      let s = (call_bounded a.schema a.predicate a.pool a.limit a.rooms taken-call).small in
      let at = i * (length written.guarantees / 8) in
      ⊎_elim
      (λ q.
      rewriting_sound a.schema (cells_in written i) rows fit.cells r here (fit.typed r here) a.limit (asked_for a) k.whole.fine
      (subst (λ t. worth (cells_in written i) t ≡ False) table_back q) true_of)
      (λ q.
      answers_sound b.answers (guarantees 0 (asked_for a)) at rows r s fit.answers here (guarantees_keep r 0 (asked_for a) true_of)
      (subst (λ ws. answers_drop b.answers ws at ≡ true) words_back q))
      (dropped (worth (cells_in written i) (table_in written)) (answers_drop b.answers (words_of written.guarantees) at) e)
