-- Where a predicate's words end: never before they begin, and never far behind the last word. Past the end every word is 0, a constant.
-- Assumes nothing.
use Rattle.std.specs.Prelude.{◌≡◌, refl, Bool, true, false, List, [], ◌∷◌, length, get_or, eqb, ltb}
use Rattle.std.proofs.Common.{subst, ◌∙◌, ltb-true, ltb-false}
use Prim.Native.Nat.{ℕ, zero, suc, ◌+◌, ◌*◌, ◌-◌, ◌/◌, ◌^◌, ◌≤◌, ◌<◌, max}
use native.Mathlib.Omega.{arith}
use Rattle.std.proofs.Math.ListN.{get_or-eq_default}
use Rattle.words.specs.Word.{words_of}
use Rattle.words.specs.WordLaws.{length_words}
use Rattle.operators.specs.Operators.{operator_of}
use Rattle.operators.specs.declared.Operator.{Operator}
use Rattle.kleene.specs.declared.Truth.{Truth}
use Rattle.kleene.specs.declared.Truth.TheVariants.{False, Unknown}
use Rattle.kleene.specs.declared.Joining.{Joining}
use Rattle.kleene.specs.declared.Joining.TheVariants.{And, Or}
use Rattle.literals.specs.Literals.{literal_of}
use Rattle.predicate.specs.Nodes.{kind_of, operator_field, column_of, flips_of, first_field, count_of, constant_of, or_equal, negated_of, node_of}
use Rattle.predicate.specs.Predicates.{Read, node_at, node_predicate, predicate_at, length_values}
use Rattle.predicate.specs.Measures.{width, depth}
use Rattle.predicate.specs.declared.Column.{Column}
use Rattle.predicate.specs.declared.Node.{Node}
use Rattle.predicate.specs.declared.Node.TheVariants.{Constant, Join, Not, TruthColumn, IsNull, IsNotNull, Comparison, List as InList, Like}

-- a place for a predicate: each predicate that begins among the words of these bytes ends at such a place, far below 2 ^ 64
abbrev pub Near : List ℕ → ℕ → Type 0
Near bs at = at ≤ length bs / 4 + 2 ^ 16

-- ---- past the end

pub node_past : (pool ws : List ℕ) (at : ℕ) → length ws ≤ at → node_at pool ws at ≡ Constant False
unfolding node_of
node_past pool ws at h = rw (get_or-eq_default ws 0 h)

-- ---- what holds of every node that a word can stand for

abbrev EachNode : (Node → Type 0) → List Node → Type 0
EachNode P [] = Unit {0}
EachNode P (n ∷ ns) = P n × EachNode P ns

each_get_d : (P : Node → Type 0) (ns : List Node) (i : ℕ) (z : Node) → EachNode P ns → P z → P (get_or ns i z)
each_get_d P [] i z h k = k
each_get_d P (n ∷ ns) zero z h k = h.0
each_get_d P (n ∷ ns) (suc i) z h k = each_get_d P ns i z h.1 k

pub node_each : (P : Node → Type 0) (pool : List ℕ) (w l : ℕ) → ((t : Truth) → P (Constant t)) → ((j : Joining) → P (Join j)) → P Not
    → ((c : Column) → P (TruthColumn c)) → ((c : Column) → P (IsNull c)) → ((c : Column) → P (IsNotNull c))
    → ((o : Operator) (c : Column) (n : ℕ) (b : Bool) → P (Comparison o c n b (literal_of pool l)))
    → ((b : Bool) (c : Column) (n : ℕ) → P (InList b c n (count_of w))) → ((b : Bool) (c : Column) → P (Like b c (literal_of pool l)))
    → P (node_of pool w l)
unfolding node_of
node_each P pool w l constant join not column null value comparison list like =
    each_get_d P
    (Constant (constant_of (operator_field w))
    ∷ Join And
    ∷ Join Or
    ∷ Not
    ∷ TruthColumn (column_of w)
    ∷ IsNull (column_of w)
    ∷ IsNotNull (column_of w)
    ∷ Comparison (or_equal (operator_of (operator_field w))) (column_of w) (flips_of w) (eqb (first_field w) 1) (literal_of pool l)
    ∷ InList (negated_of w) (column_of w) (flips_of w) (count_of w)
    ∷ Like (negated_of w) (column_of w) (literal_of pool l)
    ∷ [])
    (kind_of w) (Constant Unknown)
    (constant _, (join And, (join Or, (not, (column _, (null _, (value _, (comparison _ _ _ _, (list _ _ _, (like _ _, tt)))))))))) (constant Unknown)

-- ---- a list's count is 15 bits

abbrev Counts : Node → Type 0
Counts (Constant t) = Unit {0}
Counts (Join j) = Unit {0}
Counts Not = Unit {0}
Counts (TruthColumn c) = Unit {0}
Counts (IsNull c) = Unit {0}
Counts (IsNotNull c) = Unit {0}
Counts (Comparison o c n b l) = Unit {0}
Counts (InList b c n k) = k < 2 ^ 15
Counts (Like b c l) = Unit {0}

counts : (pool : List ℕ) (w l : ℕ) → Counts (node_of pool w l)
counts pool w l =
    node_each Counts pool w l (λ t. tt) (λ j. tt) tt (λ c. tt) (λ c. tt) (λ c. tt) (λ o c n b. tt) (λ b c n. omega arith) (λ b c. tt)

-- ---- where a predicate ends

-- a predicate at a place ends at m
abbrev Ends : List ℕ → ℕ → ℕ → Type 0
Ends ws at m = (at ≤ m) × (m ≤ max (at + 1) (2 * length ws + 2 ^ 16 - at))

module _ (pool ws : List ℕ) where
  node_ends : (f : ℕ → Read) → ((b : ℕ) → Ends ws b (f b).next) → (at : ℕ) → at < length ws → (n : Node) → Counts n
      → Ends ws at (node_predicate f pool ws at n).next
  node_ends f g at h (Constant t) k = (omega arith, omega arith)
  node_ends f g at h (Join j) k = let m = (f (at + 1)).next in (omega (arith, g (at + 1), g m), omega (arith, g (at + 1), g m))
  node_ends f g at h Not k = (omega (arith, g (at + 1)), omega (arith, g (at + 1)))
  node_ends f g at h (TruthColumn c) k = (omega arith, omega arith)
  node_ends f g at h (IsNull c) k = (omega arith, omega arith)
  node_ends f g at h (IsNotNull c) k = (omega arith, omega arith)
  node_ends f g at h (Comparison o c n b l) k = (omega arith, omega arith)
  node_ends f g at h (InList b c n i) k = (omega arith, omega arith)
  node_ends f g at h (Like b c l) k = (omega arith, omega arith)

  at_ends : (f : ℕ → Read) → ((b : ℕ) → Ends ws b (f b).next) → (at : ℕ) → Ends ws at (node_predicate f pool ws at (node_at pool ws at)).next
  at_ends f g at = go (ltb at (length ws)) refl
    where
      go : (b : Bool) → ltb at (length ws) ≡ b → Ends ws at (node_predicate f pool ws at (node_at pool ws at)).next
      go true e = node_ends f g at (ltb-true _ _ e) (node_at pool ws at) (counts pool _ _)
      go false e = rw (node_past pool ws at (ltb-false _ _ e)) (omega arith, omega arith)

  ends : (d at : ℕ) → Ends ws at (predicate_at pool ws d at).next
  unfolding predicate_at
  ends zero at = (omega arith, omega arith)
  ends (suc d) at = at_ends (predicate_at pool ws d) (ends d) at

  -- never before it begins
  pub next_grows : (d at : ℕ) → at ≤ (predicate_at pool ws d at).next
  next_grows d at = (ends d at).0

  node_width : (d : ℕ) (f : ℕ → Read) → ((b : ℕ) → depth (f b).predicate ≤ d → (f b).next ≡ b + width (f b).predicate) → (at : ℕ) (n : Node)
      → depth (node_predicate f pool ws at n).predicate ≤ suc d
      → (node_predicate f pool ws at n).next ≡ at + width (node_predicate f pool ws at n).predicate
  node_width d f g at (Constant t) h = refl
  node_width d f g at (Join j) h =
      let l = f (at + 1) in let r = f l.next in omega (arith, g (at + 1) (omega arith), g l.next (omega arith))
  node_width d f g at Not h = omega (arith, g (at + 1) (omega arith))
  node_width d f g at (TruthColumn c) h = refl
  node_width d f g at (IsNull c) h = refl
  node_width d f g at (IsNotNull c) h = refl
  node_width d f g at (Comparison o c n b l) h = refl
  node_width d f g at (InList b c n k) h = omega (arith, length_values pool ws k (at + 1))
  node_width d f g at (Like b c l) h = refl

  -- where the depth sufficed, the words in between are the predicate's
  pub next_width : (d at : ℕ) → depth (predicate_at pool ws d at).predicate ≤ d
      → (predicate_at pool ws d at).next ≡ at + width (predicate_at pool ws d at).predicate
  unfolding predicate_at
  next_width zero at h = absurd (omega arith)
  next_width (suc d) at h = node_width d (predicate_at pool ws d) (next_width d) at (node_at pool ws at) h

-- ---- places of the predicates behind a node

-- a node with predicates behind it
abbrev pub Inner : Node → Type 0
Inner (Constant t) = ⊥
Inner (Join j) = Unit {0}
Inner Not = Unit {0}
Inner (TruthColumn c) = ⊥
Inner (IsNull c) = ⊥
Inner (IsNotNull c) = ⊥
Inner (Comparison o c n b l) = ⊥
Inner (InList b c n k) = ⊥
Inner (Like b c l) = ⊥

module _ (pool bs : List ℕ) (at : ℕ) (n : Node) (h : Inner n) (e : n ≡ node_at pool (words_of bs) at) where
  inside : at < length bs / 8
  inside = go (ltb at (length bs / 8)) refl
    where
      go : (b : Bool) → ltb at (length bs / 8) ≡ b → at < length bs / 8
      go true q = ltb-true _ _ q
      go false q =
          let past : length (words_of bs) ≤ at = rw length_words (ltb-false _ _ q) in
          absurd (subst Inner (e ∙ node_past pool (words_of bs) at past) h)

  -- the first
  pub near_first : Near bs (at + 1)
  near_first = let i = inside in omega arith

  -- the second
  pub near_second : (d : ℕ) → Near bs (predicate_at pool (words_of bs) d (at + 1)).next
  near_second d = let i = inside in omega (arith, length_words bs, (ends pool (words_of bs) d (at + 1)).1)
