-- The table of a join whose first side stands at a place. Assumes nothing.
use Rattle.std.specs.Prelude.{List, ℕ}
use Rattle.kleene.specs.declared.Joining.{Joining}
use Rattle.predicate.specs.Predicates.{Read}
use Rattle.table.specs.Tables.{Table, joined}
use Rattle.table.specs.Rewriting.{rewritten}

-- f reads the predicate at a place; the second side stands behind the first
abbrev pub join_table : ℕ → List ℕ → (ℕ → Read) → ℕ → Joining → Table
join_table limit schema f at j = joined j (rewritten limit schema (f at).predicate) (rewritten limit schema (f (f at).next).predicate)
