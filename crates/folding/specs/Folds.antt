-- What a predicate's rewriting comes to. Assumes nothing.
use Rattle.std.specs.Prelude.{◌≡◌, refl, List, ℕ}
use Rattle.words.specs.declared.Walked.{Walked}
use Rattle.predicate.specs.Predicates.{Read, node_predicate}
use Rattle.predicate.specs.declared.Column.{Column}
use Rattle.predicate.specs.declared.Node.{Node}
use Rattle.predicate.specs.declared.Node.TheVariants.{Constant, Join, Not, TruthColumn, IsNull, IsNotNull, Comparison, List as InList, Like}
use Rattle.table.specs.declared.Known.{Known}
use Rattle.table.specs.Tables.{known, unhandled}
use Rattle.table.specs.Rewriting.{not_table, rewritten}

-- what a predicate comes to, and the place behind it
abbrev pub part_of : ℕ → List ℕ → Read → Walked Known
part_of limit schema r = record { value = known (rewritten limit schema r.predicate); next = r.next }

-- NOT of a node that is no truth-value column is unhandled
pub not_other : (f : ℕ → Read) (pool ws : List ℕ) (at : ℕ) (n : Node) → ((c : Column) → n ≡ TruthColumn c → ⊥)
    → not_table (node_predicate f pool ws at n).predicate ≡ unhandled
not_other f pool ws at (Constant t) h = refl
not_other f pool ws at (Join j) h = refl
not_other f pool ws at Not h = refl
not_other f pool ws at (TruthColumn c) h = absurd (h c refl)
not_other f pool ws at (IsNull c) h = refl
not_other f pool ws at (IsNotNull c) h = refl
not_other f pool ws at (Comparison o c n b l) h = refl
not_other f pool ws at (InList b c n k) h = refl
not_other f pool ws at (Like b c l) h = refl
