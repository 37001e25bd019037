-- What evaluating asks of a table: each node's word is there, and names statistics of the sorts that the node reads. Assumes nothing.
use Rattle.std.proofs.Math.Path.{◌≡◌}
use Rattle.std.specs.Prelude.{List, length}
use Prim.Native.Nat.{ℕ, zero, suc, ◌+◌, ◌-◌, ◌<◌}
use Rattle.std.proofs.Common.{sub-one}
use native.Mathlib.Omega.{arith}
use Rattle.statistics.specs.ListLaws.{Distinct}
use Rattle.statistics.specs.declared.Statistic.{Statistic}
use Rattle.pruning.specs.TableReading.{table_node_at, table_at}
use Rattle.pruning.specs.TableChecking.{is_bound, is_blanks, is_rows}
use Rattle.pruning.specs.declared.TableNode.{TableNode}
use Rattle.pruning.specs.declared.TableNode.TheVariants.{Always, Join, Against, Positive, Differ, Holds, Negation}
use Rattle.comparing.specs.Comparing.{Asks}
use Rattle.evaluating.specs.Rows.{NamedAt}

-- of a node at a place; f asks it of a child, g is the place behind a child
abbrev pub NodeReady : List Statistic → (ℕ → Type 0) → (ℕ → ℕ) → ℕ → TableNode → Type 0
NodeReady list f g at (Always b) = Unit {0}
NodeReady list f g at (Join j) = f (at + 1) × f (g (at + 1))
NodeReady list f g at (Against o p b l) = Asks o × NamedAt list is_bound p
NodeReady list f g at (Positive p) = NamedAt list is_blanks p
NodeReady list f g at (Differ p q) = NamedAt list is_blanks p × NamedAt list is_rows q
NodeReady list f g at (Holds p) = NamedAt list is_bound p
NodeReady list f g at Negation = f (at + 1)

module _ (list : List Statistic) (pool ws : List ℕ) where
  -- the place behind a table
  abbrev pub behind : ℕ → ℕ → ℕ
  behind d at = (table_at list pool ws d at).next

  -- of a table at a place, with a depth left
  unfoldable pub TableReady : ℕ → ℕ → Type 0
  TableReady zero at = ⊥
  TableReady (suc d) at = (at < length ws) × NodeReady list (TableReady d) (behind d) at (table_node_at pool ws at)

  pub ready_deep : (d at : ℕ) → TableReady d at → d ≡ 0 → ⊥
  unfolding TableReady
  ready_deep zero at r e = r
  ready_deep (suc d) at r e = let z : ◌≡◌ {A = ℕ} 0 1 = cc in omega arith

  pub ready_inside : (d at : ℕ) → TableReady d at → at < length ws
  unfolding TableReady
  ready_inside zero at r = absurd r
  ready_inside (suc d) at r = r.0

  pub ready_node : (d at : ℕ) → TableReady d at → (n : TableNode) → n ≡ table_node_at pool ws at
      → NodeReady list (TableReady (d - 1)) (behind (d - 1)) at n
  unfolding TableReady
  ready_node zero at r n e = absurd r
  ready_node (suc d) at r n e = rw (sub-one, e) r.1

-- and of its statistics list, that no statistic stands twice
pub record Ready (list : List Statistic) (pool ws : List ℕ) (d at : ℕ) : Type 0 where
  pub distinct : Distinct list
  pub table : TableReady list pool ws d at
