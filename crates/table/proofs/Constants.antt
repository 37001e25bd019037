-- Rewriting yields constants at the root only. Assumes nothing.
use Rattle.std.specs.Prelude.{Bool, false, List, ℕ}
use Rattle.std.proofs.Common.{inl, inr}
use Rattle.operators.specs.declared.Operator.{Operator}
use Rattle.kleene.specs.declared.Joining.{Joining}
use Rattle.literals.specs.Literals.{Value}
use Rattle.predicate.specs.declared.Column.{Column}
use Rattle.predicate.specs.Predicates.{Predicate}
use Rattle.predicate.specs.Checking.{type_in}
use Rattle.table.specs.Tables.{Table, joined}
use Rattle.table.specs.Comparisons.{turned, pattern_prefix, pattern_upper}
use Rattle.table.specs.Rewriting.{list_operator, list_joining, comparison_table, rewritten}
use Rattle.table.specs.Induction.{Kept}
use Rattle.table.proofs.Induction.{rewritten_by}
use Rattle.table.specs.Constants.{RootOnly, left_constant, right_constant, both_solid, turned_root, bounded_root, constant_root}

pub joined_root : (j : Joining) (l r : Table) → RootOnly l → RootOnly r → RootOnly (joined j l r)
joined_root j l r (inl (b, e)) h = rw e (left_constant j b r h)
joined_root j l r (inr s) (inl (b, e)) = rw e (right_constant j l b s)
joined_root j l r (inr s) (inr t) = both_solid j l r s t

-- ---- the theorem

module _ (schema : List ℕ) where
  comparison_root : (o : Operator) (c : Column) (n : ℕ) (b : Bool) (v : Value) → RootOnly (comparison_table schema o c n b v)
  comparison_root o c n b v = turned_root c (turned (type_in schema c.0) o n b v)

  pub roots_kept : Kept schema (λ p t a. RootOnly t)
  roots_kept =
      record {
        still = λ p b. constant_root b;
        joins = λ j l r t u a b. joined_root j t u;
        of_column = λ c. inr (tt, tt);
        of_not = λ c. inr (tt, tt);
        of_null = λ c. inr tt;
        of_not_null = λ c. inr tt;
        of_comparison = comparison_root;
        of_one = λ b c n v. comparison_root (list_operator b) c n false v;
        of_more = λ b c n u us v t a h.
            joined_root (list_joining b) t (comparison_table schema (list_operator b) c n false v) h (comparison_root (list_operator b) c n false v);
        of_like = λ c v. bounded_root c (pattern_prefix v) (pattern_upper v);
      }

-- the table of a predicate is a constant, or has none in it
pub rewritten_root : (limit : ℕ) (schema : List ℕ) (p : Predicate) → RootOnly (rewritten limit schema p)
rewritten_root limit schema p = rewritten_by limit schema (λ p t a. RootOnly t) (roots_kept schema) p
