-- What one node word is judged: its fault, or the node that has none. Assumes nothing.
use Rattle.std.specs.Prelude.{◌≡◌, refl, List, Result, Ok, Err, IsErrAnd}
use Prim.Native.Nat.{ℕ, zero, suc, ◌-◌}
use Rattle.std.proofs.Common.{arith, ap}
use Rattle.predicate.specs.Predicates.{node_at}
use Rattle.predicate.specs.Checking.{word_here, after_node, check_behind, node_fault, check_from}
use Rattle.predicate.proofs.CheckingLaws.{NodeSays, node_says, check_fault, check_node}
use Rattle.predicate.specs.declared.Node.{Node}
use Rattle.predicate.specs.declared.Progress.{Progress}
use Rattle.predicate.specs.Checked.{Refused, number_some}
use Rattle.limits.specs.Refusals.{number_of}
use Rattle.limits.specs.declared.Refusal.{Refusal}

pub data Judged : Type 0 where
  Faulty : ℕ → Judged
  Fine : Node → Judged

-- what the code's answer says
abbrev pub judged_of : Result Node Refusal → Judged
judged_of (Ok n) = Fine n
judged_of (Err r) = Faulty (number_of r)

abbrev pub judged : ℕ → Node → Judged
judged zero n = Fine n
judged (suc k) n = Faulty (suc k)

pub judged_number : (r : Refusal) (n : Node) → judged (number_of r) n ≡ Faulty (number_of r)
judged_number r n = go (number_of r) (number_some r)
  where
    go : (k : ℕ) → (k ≡ 0 → ⊥) → judged k n ≡ Faulty k
    go zero h = absurd (h refl)
    go (suc k) h = refl

pub judged_err : (x : Result Node Refusal) (r : Refusal) → IsErrAnd x (λ y. y ≡ r) → judged_of x ≡ Faulty (number_of r)
judged_err (Ok n) r h = absurd h
judged_err (Err y) r h = ap (λ z. Faulty (number_of z)) h

module _ (schema pool ws : List ℕ) where
  -- the node word at the next place, with a depth left
  unfoldable pub judge_of : ℕ → Progress → Judged
  judge_of depth s = judged (node_fault schema pool ws depth s) (node_at pool ws s.place)

  -- ---- laws in the code's terms

  pub judge_fault : (d : ℕ) (s : Progress) (k : ℕ) → node_fault schema pool ws d s ≡ k → (k ≡ 0 → ⊥) → judge_of d s ≡ Faulty k
  unfolding judge_of
  judge_fault d s zero e h = absurd (h refl)
  judge_fault d s (suc k) e h = rw e

  pub judge_fine : (d : ℕ) (s : Progress) → node_fault schema pool ws d s ≡ 0 → judge_of d s ≡ Fine (node_at pool ws s.place)
  unfolding judge_of
  judge_fine d s e = rw e

  fault_of_lem : (x : ℕ) (n : Node) (k : ℕ) → judged x n ≡ Faulty k → (x ≡ k) × (k ≡ 0 → ⊥)
  fault_of_lem zero n k e = let z : ◌≡◌ {A = ℕ} 0 1 = cc in absurd (omega arith)
  fault_of_lem (suc x) n k e = let f : suc x ≡ k = cc in (f, λ z. omega arith)

  fine_of : (x : ℕ) (m n : Node) → judged x m ≡ Fine n → (x ≡ 0) × (n ≡ m)
  fine_of zero m n e = (refl, cc)
  fine_of (suc x) m n e = let z : ◌≡◌ {A = ℕ} 0 1 = cc in absurd (omega arith)

  -- what a fine word says
  pub fine_fault : (d : ℕ) (s : Progress) (n : Node) → judge_of d s ≡ Fine n → node_fault schema pool ws d s ≡ 0
  unfolding judge_of
  fine_fault d s n e = (fine_of (node_fault schema pool ws d s) (node_at pool ws s.place) n e).0

  pub fine_says : (d : ℕ) (s : Progress) (n : Node) → judge_of d s ≡ Fine n → NodeSays schema pool ws d s
  fine_says d s n e = node_says schema pool ws d s (fine_fault d s n e)

  -- a judgement leads on
  pub check_faulty : (d : ℕ) (s : Progress) (k : ℕ) → judge_of d s ≡ Faulty k → check_from schema pool ws d s ≡ Refused k
  unfolding judge_of
  check_faulty d s k e =
      let a = fault_of_lem (node_fault schema pool ws d s) (node_at pool ws s.place) k e in
      check_fault schema pool ws d s k a.0 a.1

  pub check_fine : (d : ℕ) (s : Progress) (n : Node) → judge_of d s ≡ Fine n
      → check_from schema pool ws d s ≡ check_behind schema pool ws (check_from schema pool ws (d - 1)) (after_node s (word_here schema pool ws s)) n
  unfolding judge_of
  check_fine d s n e =
      let a = fine_of (node_fault schema pool ws d s) (node_at pool ws s.place) n e in
      check_node schema pool ws d s a.0 n a.1
