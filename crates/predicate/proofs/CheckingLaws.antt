-- Laws of checking a literal word, a node word and a whole predicate: what one with no fault says, and which refusals there are.
-- Assumes nothing.
use Rattle.std.specs.Prelude.{◌≡◌, ◌&&◌, List}
use Rattle.std.proofs.Math.Path.{refl}
use Rattle.std.proofs.Common.{arith}
use Rattle.std.proofs.Math.Bool.{Bool, true, false, cond}
use Rattle.std.proofs.Math.Logic.{inl, inr}
use Prim.Native.Nat.{ℕ, zero, suc, ◌+◌, ◌-◌, ◌≤◌, ◌<◌}
use Rattle.std.proofs.Math.Numerals.{sub-one}
use Rattle.std.proofs.Math.ListN.{length}
use Rattle.std.proofs.Math.Dec.{eqb, leb, ltb, lit≤}
use borrow.Author.Tests.{ltb-true, leb-true, leb-false, eqb-true, le-leb, lt-leb, eq-eqb, ne_eqb}
use Rattle.limits.specs.Limits.{max_nodes, max_list_literals, max_literal_bytes, max_all_literal_bytes, max_depth, malformed, over_limit}
use Rattle.words.specs.Tests.{and_both}
use Rattle.literals.specs.Literals.{length_of, plain, suits}
use Rattle.predicate.specs.Nodes.{count_of}
use Rattle.predicate.specs.Predicates.{node_at}
use Rattle.predicate.specs.Checking.{formed, limited, type_in, columned, word_fault, literal_limited, patterned, literal_fault, missing, then_on, after_node, after_literal, word_here, check_literal, check_literals, check_behind, node_fault, check_from, finish, at_start, predicate_fault}
use Rattle.predicate.specs.declared.Column.{Column}
use Rattle.predicate.specs.declared.Node.{Node}
use Rattle.predicate.specs.declared.Node.TheVariants.{Constant, Join, Not, TruthColumn, IsNull, IsNotNull, Comparison, List as InList, Like}
use Rattle.predicate.specs.declared.Progress.{Progress}
use Rattle.predicate.specs.Checked.{Checked, Refused, Passed}
use Rattle.predicate.specs.CheckingLaws.{Answers, Columned, Fault, LiteralSays, columned_says, no_fault, passes_answers, passes_fault, passes_says, present, tests_fault, then_answers}

pub literal_says : (pool : List ℕ) (as_pattern : Bool) (type : ℕ) (s : Progress) (w : ℕ) → literal_fault pool as_pattern type s w ≡ 0
    → LiteralSays pool as_pattern type s w
literal_says pool as_pattern type s w e =
    let a = no_fault (plain w) (literal_limited s w) (suits pool type w && patterned as_pattern pool w) e in
    let l = and_both (leb (length_of w) max_literal_bytes) (leb (s.bytes + length_of w) max_all_literal_bytes) a.1 in
    let f = and_both (suits pool type w) (patterned as_pattern pool w) a.2 in
    record { plain = a.0; small = leb-true _ _ l.0; room = leb-true _ _ l.1; suits = f.0; pattern = f.1 }

module _ (schema pool ws : List ℕ) where
  pub record NodeSays (d : ℕ) (s : Progress) : Type 0 where
    pub there : s.place < length ws
    pub shaped : formed (word_here schema pool ws s) ≡ true
    pub deep : d ≡ 0 → ⊥
    pub room : s.nodes < max_nodes
    pub lists : s.listed + count_of (word_here schema pool ws s) ≤ max_list_literals
    pub column : Columned schema (node_at pool ws s.place)

  pub node_says : (d : ℕ) (s : Progress) → node_fault schema pool ws d s ≡ 0 → NodeSays d s
  unfolding node_fault
  node_says d s e =
      let w : ℕ = word_here schema pool ws s in
      let n : Node = node_at pool ws s.place in
      let p = present (missing ws s) (word_fault schema d s w n) e in
      let a = no_fault (formed w) (limited d s w) (columned schema n) p.1 in
      let m : Bool = ltb s.nodes max_nodes && leb (s.listed + count_of w) max_list_literals in
      let b = and_both (ltb 0 d) m a.1 in
      let c = and_both (ltb s.nodes max_nodes) (leb (s.listed + count_of w) max_list_literals) b.1 in
      record {
        there = leb-false _ _ p.0;
        shaped = a.0;
        deep = (λ z. omega (arith, ltb-true 0 d b.0));
        room = ltb-true _ _ c.0;
        lists = leb-true _ _ c.1;
        column = columned_says schema n a.2;
      }

  -- what a literal that passed says: its word is there and has no fault
  pub literal_passed : (pattern : Bool) (c : Column) (s t : Progress) → check_literal schema pool ws pattern c s ≡ Passed t
      → let w = word_here schema pool ws s in
      (s.place < length ws) × LiteralSays pool pattern (type_in schema c.0) s w × (after_literal s w ≡ t)
  unfolding check_literal
  literal_passed pattern c s t e =
      let w : ℕ = word_here schema pool ws s in
      let f : ℕ = literal_fault pool pattern (type_in schema c.0) s w in
      let a = passes_says (cond (missing ws s) malformed f) (Passed (after_literal s w)) t e in
      let p = present (missing ws s) f a.0 in
      (leb-false _ _ p.0, literal_says pool pattern (type_in schema c.0) s w p.1, cc a.1)

  -- what a predicate that passed says: some depth was left, its word has no fault, and what stands behind it passed
  pub zero_passed : (s t : Progress) → check_from schema pool ws zero s ≡ Passed t → ⊥
  unfolding check_from
  zero_passed s t e = (node_says 0 s (passes_says (node_fault schema pool ws 0 s) (Refused over_limit) t e).0).deep refl

  pub node_passed : (d : ℕ) (s t : Progress) → check_from schema pool ws (suc d) s ≡ Passed t
      → NodeSays (suc d) s
      × (check_behind schema pool ws (check_from schema pool ws d) (after_node s (word_here schema pool ws s)) (node_at pool ws s.place) ≡ Passed t)
  unfolding check_from
  node_passed d s t e =
      let b = check_behind schema pool ws (check_from schema pool ws d) (after_node s (word_here schema pool ws s)) (node_at pool ws s.place) in
      let a = passes_says (node_fault schema pool ws (suc d) s) b t e in
      (node_says (suc d) s a.0, a.1)

  -- ---- each step in the code's terms

  pub literal_missing : (pattern : Bool) (c : Column) (s : Progress) → length ws ≤ s.place → check_literal schema pool ws pattern c s ≡ Refused malformed
  unfolding check_literal
  literal_missing pattern c s h = rw (le-leb (length ws) s.place h)

  pub literal_fault_lem : (pattern : Bool) (c : Column) (s : Progress) (n : ℕ) → s.place < length ws
      → literal_fault pool pattern (type_in schema c.0) s (word_here schema pool ws s) ≡ n → (n ≡ 0 → ⊥)
      → check_literal schema pool ws pattern c s ≡ Refused n
  unfolding check_literal
  literal_fault_lem pattern c s n h e k = rw (lt-leb (length ws) s.place h, e) (passes_fault n (Passed (after_literal s (word_here schema pool ws s))) k)

  pub literal_fine : (pattern : Bool) (c : Column) (s : Progress) → s.place < length ws
      → literal_fault pool pattern (type_in schema c.0) s (word_here schema pool ws s) ≡ 0
      → check_literal schema pool ws pattern c s ≡ Passed (after_literal s (word_here schema pool ws s))
  unfolding check_literal
  literal_fine pattern c s h e = rw (lt-leb (length ws) s.place h, e)

  pub literals_none : (n : ℕ) (c : Column) (s : Progress) → n ≡ 0 → check_literals schema pool ws n c s ≡ Passed s
  unfolding check_literals
  literals_none n c s e = rw e

  pub literals_more : (n : ℕ) (c : Column) (s : Progress) → (n ≡ 0 → ⊥)
      → check_literals schema pool ws n c s ≡ then_on (check_literals schema pool ws (n - 1) c) (check_literal schema pool ws false c s)
  unfolding check_literals
  literals_more zero c s h = absurd (h refl)
  literals_more (suc n) c s h = rw sub-one

  pub node_missing : (d : ℕ) (s : Progress) → length ws ≤ s.place → node_fault schema pool ws d s ≡ malformed
  unfolding node_fault
  node_missing d s h = rw (le-leb (length ws) s.place h)

  pub node_there : (d : ℕ) (s : Progress) → s.place < length ws → (n : Node) → n ≡ node_at pool ws s.place
      → node_fault schema pool ws d s ≡ word_fault schema d s (word_here schema pool ws s) n
  unfolding node_fault
  node_there d s h n e = rw (lt-leb (length ws) s.place h, e)

  pub check_fault : (d : ℕ) (s : Progress) (n : ℕ) → node_fault schema pool ws d s ≡ n → (n ≡ 0 → ⊥) → check_from schema pool ws d s ≡ Refused n
  unfolding check_from
  check_fault zero s n e h = rw e (passes_fault n (Refused over_limit) h)
  check_fault (suc d) s n e h = rw e (passes_fault n _ h)

  pub check_node : (d : ℕ) (s : Progress) → node_fault schema pool ws d s ≡ 0 → (n : Node) → n ≡ node_at pool ws s.place
      → check_from schema pool ws d s ≡ check_behind schema pool ws (check_from schema pool ws (d - 1)) (after_node s (word_here schema pool ws s)) n
  unfolding check_from
  check_node zero s e n f = absurd ((node_says 0 s e).deep refl)
  check_node (suc d) s e n f = rw (e, sub-one, f)

  -- ---- answers

  pub node_fault_lem : (d : ℕ) (s : Progress) → Fault (node_fault schema pool ws d s)
  unfolding node_fault
  node_fault_lem d s =
      let w : ℕ = word_here schema pool ws s in
      tests_fault (missing ws s) (formed w) (limited d s w) (columned schema (node_at pool ws s.place))

  pub literal_answers : (pattern : Bool) (c : Column) (s : Progress) → Answers (check_literal schema pool ws pattern c s)
  unfolding check_literal
  literal_answers pattern c s =
      let w : ℕ = word_here schema pool ws s in
      let k : ℕ = type_in schema c.0 in
      passes_answers (cond (missing ws s) malformed (literal_fault pool pattern k s w)) (Passed (after_literal s w))
      (tests_fault (missing ws s) (plain w) (literal_limited s w) (suits pool k w && patterned pattern pool w)) tt

  pub literals_answers : (n : ℕ) (c : Column) (s : Progress) → Answers (check_literals schema pool ws n c s)
  unfolding check_literals
  literals_answers zero c s = tt
  literals_answers (suc n) c s =
      then_answers (check_literals schema pool ws n c) (check_literal schema pool ws false c s) (literals_answers n c) (literal_answers false c s)

  behind_answers : (f : Progress → Checked) → ((s : Progress) → Answers (f s)) → (s : Progress) (n : Node) → Answers (check_behind schema pool ws f s n)
  behind_answers f h s (Constant t) = tt
  behind_answers f h s (Join j) = then_answers f (f s) h (h s)
  behind_answers f h s Not = h s
  behind_answers f h s (TruthColumn c) = tt
  behind_answers f h s (IsNull c) = tt
  behind_answers f h s (IsNotNull c) = tt
  behind_answers f h s (Comparison o c n b l) = literal_answers false c s
  behind_answers f h s (InList b c n k) = literals_answers k c s
  behind_answers f h s (Like b c l) = literal_answers true c s

  pub check_answers : (d : ℕ) (s : Progress) → Answers (check_from schema pool ws d s)
  unfolding check_from
  check_answers zero s = passes_answers (node_fault schema pool ws 0 s) (Refused over_limit) (node_fault_lem 0 s) (lit≤ tt, lit≤ tt)
  check_answers (suc d) s =
      let f : Progress → Checked = check_from schema pool ws d in
      let a : Progress = after_node s (word_here schema pool ws s) in
      let n : Node = node_at pool ws s.place in
      passes_answers (node_fault schema pool ws (suc d) s) (check_behind schema pool ws f a n) (node_fault_lem (suc d) s) (behind_answers f (check_answers d) a n)

  -- ---- the whole

  abbrev pub from_start : Checked
  from_start = check_from schema pool ws max_depth (at_start schema pool ws)

  pub fault_refused : (n : ℕ) → from_start ≡ Refused n → predicate_fault schema pool ws ≡ n
  unfolding predicate_fault
  fault_refused n e = rw e

  pub fault_passed : (t : Progress) → from_start ≡ Passed t → t.place ≡ length ws → predicate_fault schema pool ws ≡ 0
  unfolding predicate_fault
  fault_passed t e h = rw (e, eq-eqb t.place (length ws) h)

  pub fault_left : (t : Progress) → from_start ≡ Passed t → (t.place ≡ length ws → ⊥)
      → predicate_fault schema pool ws ≡ malformed
  unfolding predicate_fault
  fault_left t e h = rw (e, ne_eqb t.place (length ws) h)

  pub predicate_fault_lem : Fault (predicate_fault schema pool ws)
  unfolding predicate_fault
  predicate_fault_lem = go from_start (check_answers max_depth (at_start schema pool ws))
    where
      left : (b : Bool) → Fault (cond b 0 malformed)
      left true = inl refl
      left false = inr (lit≤ tt, lit≤ tt)

      go : (x : Checked) → Answers x → Fault (finish schema pool ws x)
      go (Refused n) h = inr h
      go (Passed t) h = left (eqb t.place (length ws))

  -- no fault: it passed, with no word left over
  pub fault_none : predicate_fault schema pool ws ≡ 0
      → (t : Progress) × (from_start ≡ Passed t) × (t.place ≡ length ws)
  unfolding predicate_fault
  fault_none e = go from_start refl (check_answers max_depth (at_start schema pool ws)) e
    where
      left : (t : Progress) (b : Bool) → eqb t.place (length ws) ≡ b → cond b 0 malformed ≡ 0 → t.place ≡ length ws
      left t true f e = eqb-true _ _ f
      left t false f e = absurd (omega arith)

      go : (x : Checked) → from_start ≡ x → Answers x → finish schema pool ws x ≡ 0
          → (t : Progress) × (from_start ≡ Passed t) × (t.place ≡ length ws)
      go (Refused n) f h e = absurd (omega arith)
      go (Passed t) f h e = (t, f, left t (eqb t.place (length ws)) refl e)
