-- Predicates, and the one that words in prefix order stand for: a total reading, whatever the words. Assumes nothing.
use Rattle.std.specs.Prelude.{◌≡◌, refl, Bool, List, [], ◌∷◌, ℕ, zero, suc, ◌+◌, ◌-◌, length, get_or}
use Rattle.std.proofs.Common.{ap, sub-one}
use Rattle.operators.specs.declared.Operator.{Operator}
use Rattle.kleene.specs.declared.Truth.{Truth}
use Rattle.kleene.specs.declared.Truth.TheVariants.{Unknown}
use Rattle.kleene.specs.declared.Joining.{Joining}
use Rattle.literals.specs.Literals.{Value, value_of, value_at}
use Rattle.predicate.specs.Nodes.{node_of}
use Rattle.predicate.specs.declared.Column.{Column}
use Rattle.predicate.specs.declared.Node.{Node}
use Rattle.predicate.specs.declared.Node.TheVariants.{Constant, Join, Not, TruthColumn, IsNull, IsNotNull, Comparison, List as InList, Like}

pub data Predicate : Type 0 where
  constant : Truth → Predicate
  join : Joining → Predicate → Predicate → Predicate
  not : Predicate → Predicate
  column : Column → Predicate
  is_null : Column → Predicate
  is_not_null : Column → Predicate
  -- operator, column, flips, literal first, literal
  comparison : Operator → Column → ℕ → Bool → Value → Predicate
  -- NOT IN, column, flips, literals
  list : Bool → Column → ℕ → List Value → Predicate
  -- NOT LIKE, column, pattern
  like : Bool → Column → Value → Predicate

-- a predicate, and the place of the word behind it
pub record Read : Type 0 where
  pub predicate : Predicate
  pub next : ℕ

-- the values of n literal words from a place on
unfoldable pub values_at : List ℕ → List ℕ → ℕ → ℕ → List Value
values_at pool ws zero at = []
values_at pool ws (suc n) at = value_at pool (get_or ws at 0) ∷ values_at pool ws n (at + 1)

abbrev pub then_not : Read → Read
then_not r = record { predicate = not r.predicate; next = r.next }

abbrev pub pair_of : Joining → Read → Read → Read
pair_of j l r = record { predicate = join j l.predicate r.predicate; next = r.next }

abbrev pub then_both : Joining → (ℕ → Read) → Read → Read
then_both j f l = pair_of j l (f l.next)

-- the predicate of a node whose word stands at a place, f reading its children
abbrev pub node_predicate : (ℕ → Read) → List ℕ → List ℕ → ℕ → Node → Read
node_predicate f pool ws at (Constant t) = record { predicate = constant t; next = at + 1 }
node_predicate f pool ws at (Join j) = then_both j f (f (at + 1))
node_predicate f pool ws at Not = then_not (f (at + 1))
node_predicate f pool ws at (TruthColumn c) = record { predicate = column c; next = at + 1 }
node_predicate f pool ws at (IsNull c) = record { predicate = is_null c; next = at + 1 }
node_predicate f pool ws at (IsNotNull c) = record { predicate = is_not_null c; next = at + 1 }
node_predicate f pool ws at (Comparison o c n b l) = record { predicate = comparison o c n b (value_of pool l); next = at + 2 }
node_predicate f pool ws at (InList b c n k) = record { predicate = list b c n (values_at pool ws k (at + 1)); next = at + 1 + k }
node_predicate f pool ws at (Like b c l) = record { predicate = like b c (value_of pool l); next = at + 2 }

-- the node whose word stands at a place; past the end the words are 0
abbrev pub node_at : List ℕ → List ℕ → ℕ → Node
node_at pool ws at = node_of pool (get_or ws at 0) (get_or ws (at + 1) 0)

-- the predicate at a place, with a depth left
unfoldable pub predicate_at : List ℕ → List ℕ → ℕ → ℕ → Read
predicate_at pool ws zero at = record { predicate = constant Unknown; next = at }
predicate_at pool ws (suc d) at = node_predicate (predicate_at pool ws d) pool ws at (node_at pool ws at)

-- ---- laws in the code's terms

pub read_zero : (pool ws : List ℕ) (d at : ℕ) → d ≡ 0 → predicate_at pool ws d at ≡ record { predicate = constant Unknown; next = at }
unfolding predicate_at
read_zero pool ws d at e = rw e

pub read_node : (pool ws : List ℕ) (d at : ℕ) → (d ≡ 0 → ⊥) → (n : Node) → n ≡ node_at pool ws at
    → predicate_at pool ws d at ≡ node_predicate (predicate_at pool ws (d - 1)) pool ws at n
unfolding predicate_at
read_node pool ws zero at h n e = absurd (h refl)
read_node pool ws (suc d) at h n e = rw (sub-one, e)

pub length_values : (pool ws : List ℕ) (n at : ℕ) → length (values_at pool ws n at) ≡ n
unfolding values_at
length_values pool ws zero at = refl
length_values pool ws (suc n) at = ap suc (length_values pool ws n (at + 1))
