-- For induction over rewriting (proofs/Induction.antt): what is asked of every leaf, and of a join. Assumes nothing.
use Rattle.std.specs.Prelude.{Bool}
use Rattle.std.proofs.Math.Bool.{false}
use mathlib.Core.List.{List, [], ◌∷◌, ◌++◌}
use Prim.Native.Nat.{ℕ}
use Rattle.operators.specs.declared.Operator.{Operator}
use Rattle.kleene.specs.declared.Joining.{Joining}
use Rattle.kleene.specs.declared.Joining.TheVariants.{Or}
use Rattle.literals.specs.Literals.{Value, null, int, text, truth}
use Rattle.predicate.specs.declared.Column.{Column}
use Rattle.predicate.specs.Predicates.{Predicate, join, not, column, is_null, is_not_null, comparison, list, like}
use Rattle.statistics.specs.declared.Statistic.{Statistic}
use Rattle.statistics.specs.declared.Statistic.TheVariants.{Blanks, Rows}
use Rattle.table.specs.declared.Folded.{Folded}
use Rattle.table.specs.declared.Folded.TheVariants.{Fixed, Left, Right, Both}
use Rattle.table.specs.Tables.{Table, always, both, known, folds, folded, joined}
use Rattle.table.specs.Comparisons.{Turned, asks, stays, equal_form, unequal_form, has_blanks, has_values, wrapped, distinct_form, not_distinct_form, like_table, like_lists}
use Rattle.table.specs.Rewriting.{column_table, not_column_table, column_lists, list_operator, list_joining, comparison_table, comparison_statistics}

-- ---- parts

-- a join is folded to a constant, to a side, or not at all
pub joined_by : (P : Table → Type 0) (j : Joining) (l r : Table) → ((b : Bool) → P (always b)) → P l → P r → P (both j l r) → P (joined j l r)
joined_by P j l r fixed left right whole = go (folds j (known l) (known r))
  where
    go : (f : Folded) → P (folded f j l r)
    go (Fixed b) = fixed b
    go Left = left
    go Right = right
    go Both = whole

-- a null literal has a form of its own
module _ (P : Table → Type 0) (c : Column) where
  pub distinct_by : (v : Value) → P (has_values c) → P (both Or (has_blanks c) (unequal_form c v)) → P (distinct_form c v)
  distinct_by null x y = x
  distinct_by (int z) x y = y
  distinct_by (text bs) x y = y
  distinct_by (truth b) x y = y

  pub not_distinct_by : (v : Value) → P (has_blanks c) → P (wrapped c (equal_form c v)) → P (not_distinct_form c v)
  not_distinct_by null x y = x
  not_distinct_by (int z) x y = y
  not_distinct_by (text bs) x y = y
  not_distinct_by (truth b) x y = y

-- ---- the literal of a comparison

-- Q of the literal that is asked for
abbrev pub Asked : (Value → Type 0) → Turned → Type 0
Asked Q (asks o v) = Q v
Asked Q stays = Unit {0}

-- ---- predicates

-- P of a predicate, its table and what it lists, at every leaf and at a join
pub record Kept (schema : List ℕ) (P : Predicate → Table → List Statistic → Type 0) : Type 0 where
  -- where nothing is listed
  pub still : (p : Predicate) (b : Bool) → P p (always b) []
  pub joins : (j : Joining) (l r : Predicate) (t u : Table) (a b : List Statistic) → P l t a → P r u b → P (join j l r) (joined j t u) (a ++ b)
  pub of_column : (c : Column) → P (column c) (column_table c) (column_lists c)
  pub of_not : (c : Column) → P (not (column c)) (not_column_table c) (column_lists c)
  pub of_null : (c : Column) → P (is_null c) (has_blanks c) (Blanks c ∷ [])
  pub of_not_null : (c : Column) → P (is_not_null c) (has_values c) (Blanks c ∷ Rows ∷ [])
  pub of_comparison : (o : Operator) (c : Column) (n : ℕ) (b : Bool) (v : Value)
      → P (comparison o c n b v) (comparison_table schema o c n b v) (comparison_statistics schema o c n b v)
  -- a list of one literal, and one with a literal more
  pub of_one : (b : Bool) (c : Column) (n : ℕ) (v : Value)
      → P (list b c n (v ∷ [])) (comparison_table schema (list_operator b) c n false v) (comparison_statistics schema (list_operator b) c n false v)
  pub of_more : (b : Bool) (c : Column) (n : ℕ) (u : Value) (us : List Value) (v : Value) (t : Table) (a : List Statistic) → P (list b c n (u ∷ us)) t a
      → P (list b c n (u ∷ (us ++ (v ∷ [])))) (joined (list_joining b) t (comparison_table schema (list_operator b) c n false v))
      (a ++ comparison_statistics schema (list_operator b) c n false v)
  pub of_like : (c : Column) (v : Value) → P (like false c v) (like_table false c v) (like_lists false c v)
