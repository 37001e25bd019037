-- Laws of checking: its steps one by one, and what a well-formed node word and a fitting column say. Assumes nothing.
use Rattle.std.specs.Prelude.{◌≡◌, not, ◌&&◌, ◌||◌, List, ◌⊎◌}
use Rattle.std.proofs.Math.Path.{refl}
use Rattle.std.proofs.Common.{sym, ◌∙◌, arith}
use Rattle.std.proofs.Math.Bool.{Bool, true, false, cond}
use Rattle.std.proofs.Math.Logic.{inl, inr}
use Prim.Native.Nat.{ℕ, zero, suc, ◌+◌, ◌≤◌, ◌<◌}
use Rattle.std.proofs.Math.ListN.{length, get_or-eq_default}
use Rattle.std.proofs.Math.Dec.{eqb, ltb, lit≤}
use borrow.Author.Tests.{ltb-true, ltb-false, eqb-true, eqb-false, not-true}
use Rattle.limits.specs.Limits.{max_literal_bytes, max_all_literal_bytes, malformed, misfit}
use Rattle.limits.specs.Refusals.{number_of}
use Rattle.limits.specs.declared.Refusal.{Refusal}
use Rattle.words.specs.Tests.{and_both, or_other}
use Rattle.literals.specs.Literals.{length_of, plain, suits, literal_of, text_type, truth_type}
use Rattle.predicate.specs.Nodes.{kind_of, operator_field, column_field, flips_of, first_field, count_of, zero_field, node_of}
use Rattle.predicate.specs.Checking.{first_fault, shape_of, unused_zero, formed, type_in, flippable, columned, patterned, then_on, passes}
use Rattle.predicate.specs.declared.Column.{Column}
use Rattle.predicate.specs.declared.Node.{Node}
use Rattle.predicate.specs.declared.Node.TheVariants.{Constant, Join, Not, TruthColumn, IsNull, IsNotNull, Comparison, List as InList, Like}
use Rattle.predicate.specs.declared.Shape.{Shape}
use Rattle.predicate.specs.declared.Progress.{Progress}
use Rattle.predicate.specs.Checked.{Checked, Refused, Passed, number_some}

-- ---- parts in order

pub then_refused : (f : Progress → Checked) (x : Checked) (n : ℕ) → x ≡ Refused n → then_on f x ≡ Refused n
then_refused f x n e = rw e

pub then_passed : (f : Progress → Checked) (x : Checked) (s : Progress) → x ≡ Passed s → then_on f x ≡ f s
then_passed f x s e = rw e

-- both parts passed
pub then_says : (f : Progress → Checked) (x : Checked) (t : Progress) → then_on f x ≡ Passed t → (s : Progress) × (x ≡ Passed s) × (f s ≡ Passed t)
then_says f (Refused n) t e = let z : ◌≡◌ {A = ℕ} 0 1 = cc in absurd (omega arith)
then_says f (Passed s) t e = (s, refl, e)

pub passes_fault : (n : ℕ) (x : Checked) → (n ≡ 0 → ⊥) → passes n x ≡ Refused n
passes_fault zero x h = absurd (h refl)
passes_fault (suc n) x h = refl

pub passes_number : (r : Refusal) (x : Checked) → passes (number_of r) x ≡ Refused (number_of r)
passes_number r x = passes_fault (number_of r) x (number_some r)

pub passes_fine : (n : ℕ) (x : Checked) → n ≡ 0 → passes n x ≡ x
passes_fine n x e = rw e

-- no fault, and the rest passed
pub passes_says : (n : ℕ) (x : Checked) (t : Progress) → passes n x ≡ Passed t → (n ≡ 0) × (x ≡ Passed t)
passes_says zero x t e = (refl, e)
passes_says (suc n) x t e = let z : ◌≡◌ {A = ℕ} 0 1 = cc in absurd (omega arith)

-- ---- no fault

-- the word is there, and has none
pub present : (gone : Bool) (x : ℕ) → cond gone malformed x ≡ 0 → (gone ≡ false) × (x ≡ 0)
present true x e = absurd (omega arith)
present false x e = (refl, e)

-- a word that is formed, within the limits and fitting
pub no_fault : (formed limited fitting : Bool) → first_fault formed limited fitting ≡ 0
    → (formed ≡ true) × (limited ≡ true) × (fitting ≡ true)
no_fault true true true e = (refl, refl, refl)
no_fault true true false e = absurd (omega arith)
no_fault true false c e = absurd (omega arith)
no_fault false b c e = absurd (omega arith)

-- ---- faults are none, 4, 5 or 6

abbrev pub Fault : ℕ → Type 0
Fault n = (n ≡ 0) ⊎ ((malformed ≤ n) × (n ≤ misfit))

-- an answer that is a refusal is one of them
abbrev pub Answers : Checked → Type 0
Answers (Refused n) = (malformed ≤ n) × (n ≤ misfit)
Answers (Passed s) = Unit {0}

pub tests_fault : (gone formed limited fitting : Bool) → Fault (cond gone malformed (first_fault formed limited fitting))
tests_fault true a b c = inr (lit≤ tt, lit≤ tt)
tests_fault false false b c = inr (lit≤ tt, lit≤ tt)
tests_fault false true false c = inr (lit≤ tt, lit≤ tt)
tests_fault false true true false = inr (lit≤ tt, lit≤ tt)
tests_fault false true true true = inl refl

pub passes_answers : (n : ℕ) (x : Checked) → Fault n → Answers x → Answers (passes n x)
passes_answers zero x h k = k
passes_answers (suc n) x (inl e) k = absurd (omega arith)
passes_answers (suc n) x (inr h) k = h

pub then_answers : (f : Progress → Checked) (x : Checked) → ((s : Progress) → Answers (f s)) → Answers x → Answers (then_on f x)
then_answers f (Refused n) h k = k
then_answers f (Passed s) h k = h s

-- ---- a node's word

-- what a formed word says
pub record Formed (w : ℕ) : Type 0 where
  pub operator : operator_field w < (shape_of (kind_of w)).operators
  pub column : (shape_of (kind_of w)).column ≡ false → column_field w ≡ 0
  pub flips : (shape_of (kind_of w)).flips ≡ false → flips_of w ≡ 0
  pub first : (shape_of (kind_of w)).first ≡ false → first_field w ≡ 0
  pub count : (shape_of (kind_of w)).count ≡ false → count_of w ≡ 0
  pub zeros : zero_field w ≡ 0

unused_says : (used : Bool) (v : ℕ) → unused_zero used v ≡ true → used ≡ false → v ≡ 0
unused_says used v e f = eqb-true v 0 (or_other used (eqb v 0) e f)

pub formed_says : (w : ℕ) → formed w ≡ true → Formed w
unfolding formed
formed_says w e =
    let s : Shape = shape_of (kind_of w) in
    let z : Bool = eqb (zero_field w) 0 in
    let k : Bool = unused_zero s.count (count_of w) in
    let i : Bool = unused_zero s.first (first_field w) in
    let f : Bool = unused_zero s.flips (flips_of w) in
    let c : Bool = unused_zero s.column (column_field w) in
    let o : Bool = ltb (operator_field w) s.operators in
    let a = and_both o (c && (f && (i && (k && z)))) e in
    let a1 = and_both c (f && (i && (k && z))) a.1 in
    let a2 = and_both f (i && (k && z)) a1.1 in
    let a3 = and_both i (k && z) a2.1 in
    let a4 = and_both k z a3.1 in
    record {
      operator = ltb-true _ _ a.0;
      column = unused_says _ _ a1.0;
      flips = unused_says _ _ a2.0;
      first = unused_says _ _ a3.0;
      count = unused_says _ _ a4.0;
      zeros = eqb-true _ _ a4.1;
    }

-- of a node and its word w, with the word l behind it: the count, and the literal
abbrev pub Stands : List ℕ → ℕ → ℕ → Node → Type 0
Stands pool w l (Constant t) = count_of w ≡ 0
Stands pool w l (Join j) = count_of w ≡ 0
Stands pool w l Not = count_of w ≡ 0
Stands pool w l (TruthColumn c) = count_of w ≡ 0
Stands pool w l (IsNull c) = count_of w ≡ 0
Stands pool w l (IsNotNull c) = count_of w ≡ 0
Stands pool w l (Comparison o c n b x) = (count_of w ≡ 0) × (x ≡ literal_of pool l)
Stands pool w l (InList b c n k) = count_of w ≡ k
Stands pool w l (Like b c x) = (count_of w ≡ 0) × (x ≡ literal_of pool l)

pub stands : (pool : List ℕ) (w l : ℕ) → formed w ≡ true → Stands pool w l (node_of pool w l)
unfolding node_of
stands pool w l f = go (kind_of w) refl
  where
    h : Formed w
    h = formed_says w f

    go : (k : ℕ) → kind_of w ≡ k → Stands pool w l (node_of pool w l)
    go zero e = rw e (h.count (rw e))
    go (suc zero) e = rw e (h.count (rw e))
    go (suc (suc zero)) e = rw e (h.count (rw e))
    go (suc (suc (suc zero))) e = rw e (h.count (rw e))
    go (suc (suc (suc (suc zero)))) e = rw e (h.count (rw e))
    go (suc (suc (suc (suc (suc zero))))) e = rw e (h.count (rw e))
    go (suc (suc (suc (suc (suc (suc zero)))))) e = rw e (h.count (rw e))
    go (suc (suc (suc (suc (suc (suc (suc zero))))))) e = rw e (h.count (rw e), refl)
    go (suc (suc (suc (suc (suc (suc (suc (suc zero)))))))) e = rw e refl
    go (suc (suc (suc (suc (suc (suc (suc (suc (suc zero))))))))) e = rw e (h.count (rw e), refl)
    go (suc (suc (suc (suc (suc (suc (suc (suc (suc (suc k)))))))))) e = let o = rw e at h.operator in absurd (omega arith)

-- ---- a node's column

-- a type that a column has puts it into the schema
pub type_in_schema : (schema : List ℕ) (c k : ℕ) → type_in schema c ≡ k → (k ≡ 0 → ⊥) → c < length schema
type_in_schema schema c k e h = go (ltb c (length schema)) refl
  where
    go : (t : Bool) → ltb c (length schema) ≡ t → c < length schema
    go true f = ltb-true c (length schema) f
    go false f = absurd (h (sym e ∙ get_or-eq_default schema 0 (ltb-false c (length schema) f)))

-- what a column with flips says
pub record Flippable (schema : List ℕ) (c : Column) (flips : ℕ) : Type 0 where
  pub in_schema : c.0 < length schema
  pub unflipped : type_in schema c.0 ≡ text_type → flips ≡ 0

pub flippable_says : (schema : List ℕ) (c : Column) (flips : ℕ) → flippable schema c flips ≡ true → Flippable schema c flips
flippable_says schema c flips e = record { in_schema = ltb-true _ _ a.0; unflipped = λ k. still k (eqb flips 0) refl }
  where
    other : Bool
    other = not (eqb (type_in schema c.0) text_type)

    a : (ltb c.0 (length schema) ≡ true) × ((eqb flips 0 || other) ≡ true)
    a = and_both (ltb c.0 (length schema)) (eqb flips 0 || other) e

    still : type_in schema c.0 ≡ text_type → (t : Bool) → eqb flips 0 ≡ t → flips ≡ 0
    still k true f = eqb-true flips 0 f
    still k false f = absurd (eqb-false _ _ (not-true _ (or_other (eqb flips 0) other a.1 f)) k)

-- what a node's column says
abbrev pub Columned : List ℕ → Node → Type 0
Columned schema (Constant t) = Unit {0}
Columned schema (Join j) = Unit {0}
Columned schema Not = Unit {0}
Columned schema (TruthColumn c) = type_in schema c.0 ≡ truth_type
Columned schema (IsNull c) = c.0 < length schema
Columned schema (IsNotNull c) = c.0 < length schema
Columned schema (Comparison o c n b l) = Flippable schema c n
Columned schema (InList b c n k) = Flippable schema c n
Columned schema (Like b c l) = type_in schema c.0 ≡ text_type

pub columned_says : (schema : List ℕ) (n : Node) → columned schema n ≡ true → Columned schema n
columned_says schema (Constant t) e = tt
columned_says schema (Join j) e = tt
columned_says schema Not e = tt
columned_says schema (TruthColumn c) e = eqb-true _ _ e
columned_says schema (IsNull c) e = ltb-true _ _ e
columned_says schema (IsNotNull c) e = ltb-true _ _ e
columned_says schema (Comparison o c n b l) e = flippable_says schema c n e
columned_says schema (InList b c n k) e = flippable_says schema c n e
columned_says schema (Like b c l) e = eqb-true _ _ e

-- ---- what a word with no fault says

pub record LiteralSays (pool : List ℕ) (as_pattern : Bool) (type : ℕ) (s : Progress) (w : ℕ) : Type 0 where
  pub plain : plain w ≡ true
  pub small : length_of w ≤ max_literal_bytes
  pub room : s.bytes + length_of w ≤ max_all_literal_bytes
  pub suits : suits pool type w ≡ true
  pub pattern : patterned as_pattern pool w ≡ true
