-- The table that words in prefix order stand for, over a statistics list and a pool: a total reading. Assumes nothing.
use Rattle.std.specs.Prelude.{◌≡◌, refl, true, List, [], ◌∷◌, ℕ, zero, suc, ◌+◌, ◌-◌, get_or, eqb}
use Rattle.std.proofs.Common.{sub-one}
use Rattle.words.specs.Layout.{field}
use Rattle.operators.specs.Operators.{operator_of}
use Rattle.kleene.specs.declared.Joining.{Joining}
use Rattle.kleene.specs.declared.Joining.TheVariants.{And, Or}
use Rattle.literals.specs.Literals.{literal_of, value_of}
use Rattle.predicate.specs.Nodes.{or_equal}
use Rattle.statistics.specs.declared.Place.{Place}
use Rattle.statistics.specs.declared.Statistic.{Statistic}
use Rattle.statistics.specs.declared.Statistic.TheVariants.{Rows}
use Rattle.table.specs.Tables.{Table, always, both, against, positive, differ, holds, negation, unhandled}
use Rattle.table.specs.Encoding.{table_layout}
use Rattle.pruning.specs.declared.TableNode.{TableNode}
use Rattle.pruning.specs.declared.TableNode.TheVariants.{Always, Join, Against, Positive, Differ, Holds, Negation}

abbrev pub kind_of : ℕ → ℕ
kind_of w = field table_layout 0 w

abbrev pub operator_field : ℕ → ℕ
operator_field w = field table_layout 1 w

abbrev pub first_field : ℕ → ℕ
first_field w = field table_layout 2 w

abbrev pub second_field : ℕ → ℕ
second_field w = field table_layout 3 w

abbrev pub literal_first_field : ℕ → ℕ
literal_first_field w = field table_layout 4 w

abbrev pub zero_field : ℕ → ℕ
zero_field w = field table_layout 5 w

abbrev pub first_of : ℕ → Place
first_of w = record { 0 = first_field w }

abbrev pub second_of : ℕ → Place
second_of w = record { 0 = second_field w }

-- the node of a word w and the word l behind it, in the order of the kinds; an unknown kind reads as true
unfoldable pub table_node_of : List ℕ → ℕ → ℕ → TableNode
table_node_of pool w l =
    get_or
    (Always (eqb (operator_field w) 1)
    ∷ Join And
    ∷ Join Or
    ∷ Against (or_equal (operator_of (operator_field w))) (first_of w) (eqb (literal_first_field w) 1) (literal_of pool l)
    ∷ Positive (first_of w)
    ∷ Differ (first_of w) (second_of w)
    ∷ Holds (first_of w)
    ∷ Negation
    ∷ [])
    (kind_of w) (Always true)

-- a table, and the place of the word behind it
pub record TableRead : Type 0 where
  pub table : Table
  pub next : ℕ

abbrev pub then_negation : TableRead → TableRead
then_negation r = record { table = negation r.table; next = r.next }

abbrev pub pair_of : Joining → TableRead → TableRead → TableRead
pair_of j l r = record { table = both j l.table r.table; next = r.next }

abbrev pub then_both : Joining → (ℕ → TableRead) → TableRead → TableRead
then_both j f l = pair_of j l (f l.next)

-- the statistic at a place of the list
abbrev pub statistic_at : List Statistic → Place → Statistic
statistic_at list p = get_or list p.0 Rows

-- the table of a node whose word stands at a place, f reading its children
abbrev pub node_table : (ℕ → TableRead) → List Statistic → List ℕ → ℕ → TableNode → TableRead
node_table f list pool at (Always b) = record { table = always b; next = at + 1 }
node_table f list pool at (Join j) = then_both j f (f (at + 1))
node_table f list pool at (Against o p b l) = record { table = against o (statistic_at list p) b (value_of pool l); next = at + 2 }
node_table f list pool at (Positive p) = record { table = positive (statistic_at list p); next = at + 1 }
node_table f list pool at (Differ p q) = record { table = differ (statistic_at list p) (statistic_at list q); next = at + 1 }
node_table f list pool at (Holds p) = record { table = holds (statistic_at list p); next = at + 1 }
node_table f list pool at Negation = then_negation (f (at + 1))

-- the node whose word stands at a place; past the end the words are 0
abbrev pub table_node_at : List ℕ → List ℕ → ℕ → TableNode
table_node_at pool ws at = table_node_of pool (get_or ws at 0) (get_or ws (at + 1) 0)

-- the table at a place, with a depth left
unfoldable pub table_at : List Statistic → List ℕ → List ℕ → ℕ → ℕ → TableRead
table_at list pool ws zero at = record { table = unhandled; next = at }
table_at list pool ws (suc d) at = node_table (table_at list pool ws d) list pool at (table_node_at pool ws at)

-- ---- laws in the code's terms

pub table_zero : (list : List Statistic) (pool ws : List ℕ) (d at : ℕ) → d ≡ 0 → table_at list pool ws d at ≡ record { table = unhandled; next = at }
unfolding table_at
table_zero list pool ws d at e = rw e

pub table_node : (list : List Statistic) (pool ws : List ℕ) (d at : ℕ) → (d ≡ 0 → ⊥) → (n : TableNode) → n ≡ table_node_at pool ws at
    → table_at list pool ws d at ≡ node_table (table_at list pool ws (d - 1)) list pool at n
unfolding table_at
table_node list pool ws zero at h n e = absurd (h refl)
table_node list pool ws (suc d) at h n e = rw (sub-one, e)
