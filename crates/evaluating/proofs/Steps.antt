-- A join whose first side decides it. Assumes nothing.
use Rattle.std.specs.Prelude.{◌≡◌, true, List, ℕ, ◌+◌, ◌-◌}
use Rattle.std.proofs.Math.Path.{refl}
use Rattle.words.specs.declared.Walked.{Walked}
use Rattle.kleene.specs.declared.Joining.{Joining}
use Rattle.kleene.specs.declared.Truth.{Truth}
use Rattle.statistics.specs.declared.Statistic.{Statistic}
use Rattle.pruning.specs.TableReading.{table_node_at, table_at}
use Rattle.evaluating.specs.declared.Step.TheVariants.{Both}
use Rattle.evaluating.specs.Rows.{row_cells, valued}
use Rattle.evaluating.specs.Ready.{behind, Ready}
use Rattle.evaluating.specs.Steps.{step_of, settled, settled_is, both_worth}

module _ (cells row pool ws : List ℕ) (d at : ℕ) (list : List Statistic) (r : Ready list pool ws d at) (j : Joining) (e : Both j ≡ step_of cells row pool (table_node_at pool ws at)) where
  -- the first side alone, where it decides; n is the place behind the second
  pub both_settled : (x : Walked Truth) (n : ℕ) → x ≡ valued (row_cells cells list row) (table_at list pool ws (d - 1) (at + 1))
      → settled j x.value ≡ true → n ≡ behind list pool ws (d - 1) x.next
      → record { value = x.value; next = n } ≡ valued (row_cells cells list row) (table_at list pool ws d at)
  both_settled x n p s q =
      let y : Walked Truth = valued (row_cells cells list row) (table_at list pool ws (d - 1) x.next) in
      rw (q, ← settled_is j x.value y.value s) (both_worth cells row pool ws d at list r j e x y p refl)
