-- A refusal writes nothing; else every container's flag is written. Assumes nothing.
use mathlib.Core.Path.{refl, sym}
use Rattle.predicate.specs.Checked.{number_some}
use Rattle.spill.specs.Pruning.{passed, fits, flagged_refused, flagged_done}
use Rattle.spill.proofs.spill_prune.Goals as goal

pub prune_flags-requires : goal.prune_flags-requires
prune_flags-requires c =
    fits _ (passed _ (sym c.in-Ok.ensures)) (λ k. (c.type_inv.statistics k).fits)

pub returns-in-Ok : goal.returns-in-Ok
returns-in-Ok c =
    flagged_done _ _ _ _ c.in-Ok.ensures refl refl c.prune_flags.ensures

pub returns-in-Err : goal.returns-in-Err
returns-in-Err c =
    rw (c.from-in-Err.ensures, c.from.ensures) (flagged_refused _ _ _ c.in-Err.ensures (number_some c.in-Err.refusal))
