-- Demand 3 of calls of the two entries: what a flag says of rows, from the contracts; and what missing statistics claim. Assumes nothing.
use Rattle.std.specs.Prelude.{◌≡◌, refl, false, ◌⊎◌, List, [], ℕ, ◌+◌, ◌*◌, ◌<◌, length, get_or}
use Rattle.std.proofs.Common.{sym, ◌∙◌, ap, subst, true≢false, inl, inr, arith}
use Rattle.words.specs.Word.{words_of}
use Rattle.operators.specs.declared.Operator.{Operator}
use Rattle.kleene.specs.declared.Truth.TheVariants.{True}
use Rattle.literals.specs.Literals.{Value, null, type_of, null_type, integer_type}
use Rattle.predicate.specs.declared.Column.{Column}
use Rattle.predicate.specs.Predicates.{comparison}
use Rattle.predicate.specs.Checking.{type_in}
use Rattle.predicate.specs.Meaning.{Row, value_in, meaning}
use Rattle.predicate.specs.Rows.{In}
use Rattle.statistics.specs.declared.Statistic.{Statistic}
use Rattle.statistics.specs.declared.Statistic.TheVariants.{Least, Greatest, Blanks, Rows}
use Rattle.statistics.specs.Statistics.{place_of}
use Rattle.table.specs.Worth.{Cells}
use Rattle.table.specs.Fitting.{Counts, Bounds, FitCells}
use Rattle.pruning.specs.GridLaws.{cell_by, absent_cell}
use Rattle.spill.specs.Rewrite.{Outcome}
use Rattle.spill.specs.Prune.{Call, pruning, prune_fault, flags, flag_in, flags_from, list_in}
use Rattle.spill.specs.Done.{Buffers}
use Rattle.spill.specs.Rewriting.{rooms_of}
use Rattle.demands.specs.Calls.{Asked, fault_of, outcome_of, Blocks, call_of, cells_in, refusal_in, fronts_of, Round, predicate_in, flag_byte}
use Rattle.demands.specs.Rows.{Fit, flags_say}
use Rattle.demands.proofs.Rows.{drops_no_match}
use Rattle.demands.specs.Sharp.{Literal, Possible, Possibly}
use Rattle.demands.proofs.Sharp.{nothing_better}
use Rattle.demands.specs.Bytes.{prune_answered, accepted_pruning, flag_at}
use Rattle.demands.proofs.Bytes.{rewrite_answered}
use Rattle.demands.specs.Predicates.{rewrite_some, prune_some}
use Rattle.demands.proofs.Predicates.{accepted_is, fronts_are}

module _ (x : Round) where
  -- the pruning call by the definition's outputs
  abbrev defined : Call
  defined = call_of x.rewrite.asked.schema (outcome_of x.rewrite.asked) x.blocks

  given_is : x.prune.given ≡ defined
  given_is = x.lent_on ∙ ap (λ (o : Outcome). call_of x.rewrite.asked.schema o x.blocks) (fronts_are x.rewrite x.rewrote)

  abbrev all : List ℕ
  all = flags_from defined 0 x.blocks.containers

  flags_are : pruning defined ≡ flags all
  flags_are = accepted_pruning defined (sym ((prune_answered x.prune).refusal_is ∙ ap prune_fault given_is) ∙ x.pruned)

  -- a flag of the definition is the byte that was written
  byte_is : (i d : ℕ) → i < x.blocks.containers → get_or all i d ≡ flag_byte x i
  byte_is i d h =
      let n : x.prune.given.containers ≡ x.blocks.containers = ap (λ (k : Call). k.containers) given_is in
      sym (flags_say defined all i d flags_are h).1 ∙ ap (λ (c : Call). flag_in c i) (sym given_is) ∙ sym (flag_at x.prune x.pruned i (omega arith))

  pub round_drops : (i : ℕ) → i < x.blocks.containers → flag_byte x i ≡ 0
      → (rows : List Row) → Fit x.prune.given (predicate_in x) i rows → (r : Row) → In r rows → meaning r (predicate_in x) ≡ True → ⊥
  round_drops i h z rows fit =
      drops_no_match x.rewrite.asked x.blocks all (accepted_is x.rewrite x.rewrote) flags_are i h (byte_is i 1 h ∙ z) rows
      (subst (λ c. Fit c (predicate_in x) i rows) given_is fit)

  pub round_keeps : (i : ℕ) → i < x.blocks.containers → flag_byte x i ≡ 1 → x.blocks.answers ≡ []
      → (o : Operator) (c : Column) (v : Value) → predicate_in x ≡ comparison o c 0 false v → type_in x.rewrite.asked.schema c.0 ≡ integer_type → Literal o v
      → Possible c (cells_in x.prune.given i) (list_in x.prune.given) → Possibly x.prune.given (predicate_in x) i
  round_keeps i h z none o c v is whole l p =
      subst (λ k. Possibly k (predicate_in x) i) (sym given_is)
      (nothing_better x.rewrite.asked x.blocks all (accepted_is x.rewrite x.rewrote) flags_are i h (byte_is i 0 h ∙ z) none o c v is whole l
      (subst (λ k. Possible c (cells_in k i) (list_in k)) given_is p))

-- rounds there are: one of every accepted rewriting call and every pruning call by its outputs that is not refused
pub some_round : (a : Asked) (old : Buffers) → a.rooms ≡ rooms_of old → fault_of a ≡ 0 → (b : Blocks) (bytes : List ℕ) → b.room ≡ length bytes
    → prune_fault (call_of a.schema (outcome_of a) b) ≡ 0 → (x : Round) × (x.rewrite.asked ≡ a) × (x.blocks ≡ b)
some_round a old rooms e b bytes room z =
    let c = (rewrite_some a old rooms).0 in
    let q : c.asked ≡ a = (rewrite_some a old rooms).1 in
    let w : refusal_in c.answer ≡ 0 = (rewrite_answered c).refusal_is ∙ ap fault_of q ∙ e in
    let g : Call = call_of c.asked.schema (fronts_of c) b in
    let f : g ≡ call_of a.schema (outcome_of a) b =
    ap (λ (o : Outcome). call_of c.asked.schema o b) (fronts_are c w) ∙ ap (λ (k : Asked). call_of k.schema (outcome_of k) b) q in
    let d = prune_some g bytes room in (
      record {
        rewrite = c;
        blocks = b;
        prune = d.0;
        rewrote = w;
        lent_on = d.1;
        pruned = (prune_answered d.0).refusal_is ∙ ap prune_fault (d.1 ∙ f) ∙ z;
      },
      q,
      refl,
    )

-- ---- missing statistics

-- a grid word of type 0 is an absent cell
pub missing_cell : (c : Call) (i : ℕ) (s : Statistic) → type_of (get_or (words_of c.grid) (i * length (list_in c) + place_of s (list_in c)) 0) ≡ null_type
    → cells_in c i s ≡ null
missing_cell c i s e = cell_by c.schema c.cells (list_in c) (words_of c.grid) (λ v. v ≡ null) i s refl (λ k. absent_cell c.cells s _ e)

counts_without : (v w : Value) (n : ℕ) → (w ≡ null) ⊎ (w ≡ v) → Counts v n → Counts w n
counts_without v w n (inl e) h = rw e tt
counts_without v w n (inr e) h = rw e h

low_without : (v w x : Value) → (w ≡ null) ⊎ (w ≡ v) → Bounds v x → Bounds w x
low_without v w x (inl e) h p q = absurd (true≢false (rw e at p))
low_without v w x (inr e) h p q = rw e (h (rw e at p) q)

high_without : (v w x : Value) → (w ≡ null) ⊎ (w ≡ v) → Bounds x v → Bounds x w
high_without v w x (inl e) h p q = absurd (true≢false (rw e at q))
high_without v w x (inr e) h p q = rw e (h p (rw e at q))

-- rows that fit cells fit them with any of them absent
pub fit_without : (cells fewer : Cells) (rows : List Row) → ((s : Statistic) → (fewer s ≡ null) ⊎ (fewer s ≡ cells s)) → FitCells cells rows → FitCells fewer rows
fit_without cells fewer rows h f =
    record {
      count = counts_without (cells Rows) (fewer Rows) _ (h Rows) f.count;
      blanks = λ c. counts_without (cells (Blanks c)) (fewer (Blanks c)) _ (h (Blanks c)) (f.blanks c);
      least = λ c r k. low_without (cells (Least c)) (fewer (Least c)) (value_in r c) (h (Least c)) (f.least c r k);
      greatest = λ c r k. high_without (cells (Greatest c)) (fewer (Greatest c)) (value_in r c) (h (Greatest c)) (f.greatest c r k);
    }
