-- Tree rewriting: the table of a predicate, and the statistics that it lists. Assumes nothing.
use Rattle.std.specs.Prelude.{Bool, true, false, cond, List, [], ◌∷◌, ◌++◌, ℕ, length, leb}
use Rattle.operators.specs.declared.Operator.{Operator}
use Rattle.operators.specs.declared.Operator.TheVariants.{Equal, NotEqual}
use Rattle.kleene.specs.declared.Truth.{Truth}
use Rattle.kleene.specs.declared.Truth.TheVariants.{False, Unknown, True}
use Rattle.kleene.specs.declared.Joining.{Joining}
use Rattle.kleene.specs.declared.Joining.TheVariants.{And, Or}
use Rattle.literals.specs.Literals.{Value}
use Rattle.predicate.specs.declared.Column.{Column}
use Rattle.predicate.specs.Predicates.{Predicate, constant, join, not, column, is_null, is_not_null, comparison, list, like}
use Rattle.predicate.specs.Checking.{type_in}
use Rattle.statistics.specs.declared.Statistic.{Statistic}
use Rattle.statistics.specs.declared.Statistic.TheVariants.{Least, Greatest, Blanks, Rows}
use Rattle.statistics.specs.Statistics.{added_all}
use Rattle.table.specs.Tables.{Table, always, both, holds, negation, unhandled, joined}
use Rattle.table.specs.Comparisons.{turned, turned_form, turned_lists, has_blanks, has_values, like_table, like_lists}

-- constant false stays; true and null are unhandled
abbrev pub constant_table : Truth → Table
constant_table False = always false
constant_table Unknown = unhandled
constant_table True = unhandled

-- a truth-value column: least OR greatest
abbrev pub column_table : Column → Table
column_table c = both Or (holds (Least c)) (holds (Greatest c))

-- NOT of a truth-value column: NOT(least AND greatest)
abbrev pub not_column_table : Column → Table
not_column_table c = negation (both And (holds (Least c)) (holds (Greatest c)))

abbrev pub column_lists : Column → List Statistic
column_lists c = Least c ∷ Greatest c ∷ []

-- a NOT of anything else is unhandled
abbrev pub not_table : Predicate → Table
not_table (constant t) = unhandled
not_table (join j l r) = unhandled
not_table (not p) = unhandled
not_table (column c) = not_column_table c
not_table (is_null c) = unhandled
not_table (is_not_null c) = unhandled
not_table (comparison o c n b v) = unhandled
not_table (list b c n vs) = unhandled
not_table (like b c v) = unhandled

abbrev pub not_lists : Predicate → List Statistic
not_lists (constant t) = []
not_lists (join j l r) = []
not_lists (not p) = []
not_lists (column c) = column_lists c
not_lists (is_null c) = []
not_lists (is_not_null c) = []
not_lists (comparison o c n b v) = []
not_lists (list b c n vs) = []
not_lists (like b c v) = []

-- a list is an OR of =, or an AND of ≠
abbrev pub list_operator : Bool → Operator
list_operator false = Equal
list_operator true = NotEqual

abbrev pub list_joining : Bool → Joining
list_joining false = Or
list_joining true = And

module _ (schema : List ℕ) where
  abbrev pub comparison_table : Operator → Column → ℕ → Bool → Value → Table
  comparison_table o c n b v = turned_form c (turned (type_in schema c.0) o n b v)

  abbrev pub comparison_statistics : Operator → Column → ℕ → Bool → Value → List Statistic
  comparison_statistics o c n b v = turned_lists c (turned (type_in schema c.0) o n b v)

  -- members joined from the left
  unfoldable pub members_table : Bool → Column → ℕ → Table → List Value → Table
  members_table b c n t [] = t
  members_table b c n t (v ∷ vs) = members_table b c n (joined (list_joining b) t (comparison_table (list_operator b) c n false v)) vs

  unfoldable pub members_lists : Bool → Column → ℕ → List Value → List Statistic
  members_lists b c n [] = []
  members_lists b c n (v ∷ vs) = comparison_statistics (list_operator b) c n false v ++ members_lists b c n vs

  abbrev pub nested_table : Bool → Column → ℕ → List Value → Table
  nested_table b c n [] = unhandled
  nested_table b c n (v ∷ vs) = members_table b c n (comparison_table (list_operator b) c n false v) vs

module _ (limit : ℕ) (schema : List ℕ) where
  -- rewritten from 1 literal up to the limit; else unhandled, nothing listed
  abbrev pub list_table : Bool → Column → ℕ → List Value → Table
  list_table b c n vs = cond (leb (length vs) limit) (nested_table schema b c n vs) unhandled

  abbrev pub list_lists : Bool → Column → ℕ → List Value → List Statistic
  list_lists b c n vs = cond (leb (length vs) limit) (members_lists schema b c n vs) []

  unfoldable pub rewritten : Predicate → Table
  rewritten (constant t) = constant_table t
  rewritten (join j l r) = joined j (rewritten l) (rewritten r)
  rewritten (not p) = not_table p
  rewritten (column c) = column_table c
  rewritten (is_null c) = has_blanks c
  rewritten (is_not_null c) = has_values c
  rewritten (comparison o c n b v) = comparison_table schema o c n b v
  rewritten (list b c n vs) = list_table b c n vs
  rewritten (like b c v) = like_table b c v

  -- both children are always built, so what they list stays
  unfoldable pub lists : Predicate → List Statistic
  lists (constant t) = []
  lists (join j l r) = lists l ++ lists r
  lists (not p) = not_lists p
  lists (column c) = column_lists c
  lists (is_null c) = Blanks c ∷ []
  lists (is_not_null c) = Blanks c ∷ Rows ∷ []
  lists (comparison o c n b v) = comparison_statistics schema o c n b v
  lists (list b c n vs) = list_lists b c n vs
  lists (like b c v) = like_lists b c v

  -- the statistics list
  abbrev pub statistics : Predicate → List Statistic
  statistics p = added_all [] (lists p)
