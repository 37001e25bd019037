-- What both sides of a join come to, joined. Assumes nothing.
use mathlib.Core.Path.{◌≡◌}
use mathlib.Core.Logic.{◌⊎◌, inl, inr}
use mathlib.Core.List.{List}
use Prim.Native.Nat.{ℕ, ◌-◌}
use Rattle.words.specs.declared.Walked.{Walked}
use Rattle.kleene.specs.declared.Joining.{Joining}
use Rattle.predicate.specs.Predicates.{Read, then_both, node_predicate, node_at, predicate_at, read_node}
use Rattle.predicate.specs.declared.Column.{Column}
use Rattle.predicate.specs.declared.Node.{Node}
use Rattle.predicate.specs.declared.Node.TheVariants.{TruthColumn, IsNull, IsNotNull}
use Rattle.table.specs.declared.Known.{Known}
use Rattle.table.specs.declared.Known.TheVariants.{Open}
use Rattle.table.specs.Tables.{known}
use Rattle.table.specs.Rewriting.{rewritten}
use Rattle.knowing.specs.Knowns.{join_known, known_joined}
use Rattle.folding.specs.Folds.{part_of}

-- both sides folded, and joined
pub part_both : (limit : ℕ) (schema : List ℕ) (j : Joining) (f : ℕ → Read) (at : ℕ) (l r : Walked Known) (k : Known) → l ≡ part_of limit schema (f at)
    → r ≡ part_of limit schema (f l.next) → k ≡ join_known j l.value r.value
    → ◌≡◌ {A = Walked Known} (record { value = k; next = r.next }) (part_of limit schema (then_both j f (f at)))
unfolding rewritten
part_both limit schema j f at l r k e g h =
    rw (h, g, e, known_joined j (rewritten limit schema (f at).predicate) (rewritten limit schema (f (f at).next).predicate))

-- a predicate by what its node comes to
pub part_leaf : (limit : ℕ) (schema pool ws : List ℕ) (d at : ℕ) → (d ≡ 0 → ⊥) → (n : Node) → n ≡ node_at pool ws at → (k : Known)
    → k ≡ known (rewritten limit schema (node_predicate (predicate_at pool ws (d - 1)) pool ws at n).predicate)
    → ◌≡◌ {A = Walked Known} (record { value = k; next = (predicate_at pool ws d at).next }) (part_of limit schema (predicate_at pool ws d at))
part_leaf limit schema pool ws d at h n e k g = rw (g, read_node pool ws d at h n e)

module _ (limit : ℕ) (schema : List ℕ) (f : ℕ → Read) (pool ws : List ℕ) (at : ℕ) where
  -- a column that is asked for its truth, for nulls or for values stays open
  pub column_open : (n : Node) → ((c : Column) × (n ≡ TruthColumn c)) ⊎ (((c : Column) × (n ≡ IsNull c)) ⊎ ((c : Column) × (n ≡ IsNotNull c)))
      → Open ≡ known (rewritten limit schema (node_predicate f pool ws at n).predicate)
  unfolding rewritten
  column_open n (inl (c, e)) = rw e
  column_open n (inr (inl (c, e))) = rw e
  column_open n (inr (inr (c, e))) = rw e
