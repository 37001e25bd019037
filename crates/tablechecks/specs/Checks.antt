-- Checking a table node by node. Assumes nothing.
use Rattle.std.specs.Prelude.{◌≡◌, ◌≢◌, cond, true, false, Option, None, Some, ◌&&◌, List, length, get_or, ltb}
use Rattle.std.proofs.Math.Path.{refl}
use Prim.Native.Nat.{ℕ, zero, suc, ◌-◌, ◌/◌, ◌<◌}
use Rattle.std.proofs.Math.Numerals.{sub-one}
use Rattle.std.proofs.Common.{ltb-true}
use Rattle.words.specs.Word.{words_of}
use Rattle.words.specs.WordLaws.{length_words}
use Rattle.words.specs.Tests.{and_both}
use Rattle.statistics.specs.declared.Statistic.{Statistic}
use Rattle.pruning.specs.TableReading.{table_node_at}
use Rattle.pruning.specs.TableChecking.{table_formed, table_named, table_node_fine, then_at, table_behind, check_table_from}
use Rattle.pruning.specs.declared.TableNode.{TableNode}

module _ (schema : List ℕ) (list : List Statistic) (pool ws : List ℕ) where
  pub check_zero : (d at : ℕ) → d ≡ 0 → check_table_from schema list pool ws d at ≡ None
  unfolding check_table_from
  check_zero d at e = rw e

  -- one node, then what stands behind it
  pub check_step : (d at : ℕ) → d ≢ 0 → check_table_from schema list pool ws d at
      ≡ cond (table_node_fine schema list pool ws at) (table_behind schema list pool ws (check_table_from schema list pool ws (d - 1)) at (table_node_at pool ws at)) None
  unfolding check_table_from
  check_step zero at h = absurd (h refl)
  check_step (suc d) at h = rw sub-one

  pub check_faulty : (d at : ℕ) → table_node_fine schema list pool ws at ≡ false → check_table_from schema list pool ws d at ≡ None
  unfolding check_table_from
  check_faulty zero at e = refl
  check_faulty (suc d) at e = rw e

  pub check_node : (d at : ℕ) → (d ≡ 0 → ⊥) → table_node_fine schema list pool ws at ≡ true → (n : TableNode) → n ≡ table_node_at pool ws at
      → check_table_from schema list pool ws d at ≡ table_behind schema list pool ws (check_table_from schema list pool ws (d - 1)) at n
  unfolding check_table_from
  check_node zero at h f n e = absurd (h refl)
  check_node (suc d) at h f n e = rw (f, sub-one, e)

  -- a fault of the first child is its parent's; from its end the second child is checked
  pub then_broken : (f : ℕ → Option ℕ) (r : Option ℕ) → r ≡ None → then_at schema list pool ws f r ≡ None
  then_broken f r e = rw e

  pub then_at_lem : (f : ℕ → Option ℕ) (r : Option ℕ) (m : ℕ) → r ≡ Some m → then_at schema list pool ws f r ≡ f m
  then_at_lem f r m e = rw e

-- a node that is fine is there
pub fine_inside : (schema : List ℕ) (list : List Statistic) (pool bs : List ℕ) (at : ℕ) → table_node_fine schema list pool (words_of bs) at ≡ true
    → (table_node_fine schema list pool (words_of bs) at ≡ true) × (at < length bs / 8)
fine_inside schema list pool bs at e =
    let ws = words_of bs in
    let a = and_both (ltb at (length ws)) (table_formed (get_or ws at 0) && table_named schema list pool ws at (table_node_at pool ws at)) e in
    (e, rw length_words at (ltb-true at (length ws) a.0))
