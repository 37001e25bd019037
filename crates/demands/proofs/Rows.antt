-- Demand 3, first half, "every set of rows": a dropped block whose cells and answers are true of some rows has no row for which the
-- predicate is true, whatever statistics are missing. From rewriting's call and pruning's call to rows. Assumes nothing.
use Rattle.std.specs.Prelude.{◌≡◌, List, ℕ, ◌<◌, get_or}
use Rattle.std.proofs.Common.{sym, ◌∙◌, subst}
use Rattle.kleene.specs.declared.Truth.TheVariants.{True}
use Rattle.predicate.specs.Meaning.{Row, meaning}
use Rattle.predicate.specs.Rows.{In}
use Rattle.spill.specs.Prune.{flags, pruning}
use Rattle.demands.specs.Calls.{Asked, fault_of, outcome_of, asked_for, Blocks, call_of}
use Rattle.demands.specs.Rows.{Fit, accepted_writes, flags_say, written, written_sound}

-- A predicate's call is accepted; pruned by its own table, statistics list and guarantees, blocks get flags; rows fit a block whose
-- flag is 0: then the predicate is true for none of them.
pub drops_no_match : (a : Asked) (b : Blocks) (fs : List ℕ) → fault_of a ≡ 0 → pruning (call_of a.schema (outcome_of a) b) ≡ flags fs
    → (i : ℕ) → i < b.containers → get_or fs i 1 ≡ 0
    → (rows : List Row) → Fit (call_of a.schema (outcome_of a) b) (asked_for a) i rows
    → (r : Row) → In r rows → meaning r (asked_for a) ≡ True → ⊥
unfolding written
drops_no_match a b fs t e i h z rows =
    subst (λ o. pruning (call_of a.schema o b) ≡ flags fs → Fit (call_of a.schema o b) (asked_for a) i rows
    → (r : Row) → In r rows → meaning r (asked_for a) ≡ True → ⊥)
    (sym (accepted_writes a b t))
    (λ e fit r here true_of. written_sound a b t i rows fit ((flags_say (written a b t) fs i 1 e h).1 ∙ z) r here true_of)
    e
