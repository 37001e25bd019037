-- Demand 3, second half, "nothing better was possible": where a block is kept for one integer comparison, some rows fit its cells and
-- hold a match. From rewriting's call and pruning's call to rows. Assumes nothing.
use Rattle.std.proofs.Math.Path.{◌≡◌}
use Rattle.std.specs.Prelude.{false, List, [], ℕ, ◌<◌, get_or}
use Rattle.std.proofs.Common.{sym, ◌∙◌, subst}
use Rattle.operators.specs.declared.Operator.{Operator}
use Rattle.literals.specs.Literals.{Value, integer_type}
use Rattle.predicate.specs.declared.Column.{Column}
use Rattle.predicate.specs.Predicates.{comparison}
use Rattle.predicate.specs.Checking.{type_in}
use Rattle.spill.specs.Prune.{flags, pruning, list_in}
use Rattle.demands.specs.Calls.{Asked, fault_of, outcome_of, asked_for, Blocks, call_of, cells_in}
use Rattle.demands.specs.Rows.{flags_say, accepted_writes, written}
use Rattle.demands.specs.Sharp.{Literal, Possible, Possibly, call, cells, cellular, found, not_false, possibly}

-- One integer comparison, column first, no flips, its literal not null unless the operator is a distinct-from; no answers; every
-- statistic asked for present, least ≤ greatest, blanks ≤ rows, at least one row. If the block's flag is 1, some rows that fit the same
-- cells hold one for which the predicate is true.
pub nothing_better : (a : Asked) (b : Blocks) (fs : List ℕ) → fault_of a ≡ 0 → pruning (call_of a.schema (outcome_of a) b) ≡ flags fs
    → (i : ℕ) → i < b.containers → get_or fs i 0 ≡ 1 → b.answers ≡ []
    → (o : Operator) (c : Column) (v : Value) → asked_for a ≡ comparison o c 0 false v → type_in a.schema c.0 ≡ integer_type → Literal o v
    → Possible c (cells_in (call_of a.schema (outcome_of a) b) i) (list_in (call_of a.schema (outcome_of a) b))
    → Possibly (call_of a.schema (outcome_of a) b) (asked_for a) i
unfolding call cells written
nothing_better a b fs t e i h z none o c v is whole l p =
    subst
    (λ x. pruning (call_of a.schema x b) ≡ flags fs → Possible c (cells_in (call_of a.schema x b) i) (list_in (call_of a.schema x b))
    → Possibly (call_of a.schema x b) (asked_for a) i)
    (sym (accepted_writes a b t))
    (λ e p.
    let q = flags_say (call a b t o c v is whole none i h) fs i 0 e h in
    let k = cellular a b t o c v is whole none i h q.0 in
    let n = not_false a b t o c v is whole none i h (q.1 ∙ z) in
    possibly a b t o c v is whole none i h (found a b t o c v is whole none i h l k p n))
    e p
