-- Induction over rewriting: what the table and the statistics of every leaf have, and a join keeps, those of every predicate have.
-- Assumes nothing.
use Rattle.std.specs.Prelude.{◌≡◌, refl, Bool, cond, not as negation, ◌||◌, length, eqb, leb, ltb, ℤ, Option, Some, None}
use Rattle.std.proofs.Math.Bool.{true, false}
use mathlib.Core.List.{List, [], ◌∷◌, ◌++◌, append_assoc, append-nil}
use Prim.Native.Nat.{ℕ, zero, suc}
use Rattle.operators.specs.Operators.{swap_of}
use Rattle.operators.specs.declared.Operator.{Operator}
use Rattle.operators.specs.declared.Operator.TheVariants.{Equal, NotEqual, Below, AtMost, Above, AtLeast, Distinct, NotDistinct}
use Rattle.kleene.specs.declared.Truth.{Truth}
use Rattle.kleene.specs.declared.Truth.TheVariants.{False, Unknown, True}
use Rattle.literals.specs.Signed.{negated}
use Rattle.literals.specs.Literals.{Value, null, int, text, truth, integer_type, truth_type}
use Rattle.predicate.specs.declared.Column.{Column}
use Rattle.predicate.specs.Predicates.{Predicate, constant, join, not, column, is_null, is_not_null, comparison, list, like}
use Rattle.statistics.specs.declared.Statistic.{Statistic}
use Rattle.table.specs.Tables.{Table, joined, unhandled}
use Rattle.table.specs.Comparisons.{Turned, asks, stays, minus_int, minus, minuses, negated_truth, flip_once, truth_flips, no_flips, flipped, unturned, turned, like_table, like_lists}
use Rattle.table.specs.Rewriting.{constant_table, not_table, not_lists, list_operator, list_joining, comparison_table, comparison_statistics, members_table, members_lists, nested_table, rewritten, lists}
use Rattle.table.specs.Induction.{Asked, Kept}

-- what negation keeps of a literal, turning keeps
module _ (Q : Value → Type 0) (minus_kept : (z y : ℤ) → negated z ≡ Some y → Q (int z) → Q (int y)) (not_kept : (b : Bool) → Q (truth b) → Q (truth (negation b))) where
  minus_by : (f : Operator → Value → Turned) → ((o : Operator) (v : Value) → Q v → Asked Q (f o v)) → (o : Operator) (v : Value) → Q v → Asked Q (minus f o v)
  minus_by f next o null q = next (swap_of o) null q
  minus_by f next o (int z) q = go (negated z) refl
    where
      go : (r : Option ℤ) → negated z ≡ r → Asked Q (minus_int f o r)
      go (Some y) e = next (swap_of o) (int y) (minus_kept z y e q)
      go None e = tt
  minus_by f next o (text bs) q = tt
  minus_by f next o (truth b) q = tt

  minuses_by : (n : ℕ) (o : Operator) (v : Value) → Q v → Asked Q (minuses n o v)
  unfolding minuses
  minuses_by zero o v q = q
  minuses_by (suc n) o v q = minus_by (minuses n) (minuses_by n) o v q

  negated_by : (v : Value) → Q v → Q (negated_truth v)
  negated_by null q = q
  negated_by (int z) q = q
  negated_by (text bs) q = q
  negated_by (truth b) q = not_kept b q

  once_by : (o : Operator) (v : Value) → Q v → Asked Q (flip_once o v)
  once_by Equal v q = negated_by v q
  once_by NotEqual v q = negated_by v q
  once_by Below v q = tt
  once_by AtMost v q = tt
  once_by Above v q = tt
  once_by AtLeast v q = tt
  once_by Distinct v q = tt
  once_by NotDistinct v q = tt

  truth_by : (n : ℕ) (o : Operator) (v : Value) → Q v → Asked Q (truth_flips n o v)
  truth_by zero o v q = q
  truth_by (suc zero) o v q = once_by o v q
  truth_by (suc (suc n)) o v q = tt

  none_by : (n : ℕ) (o : Operator) (v : Value) → Q v → Asked Q (no_flips n o v)
  none_by zero o v q = q
  none_by (suc n) o v q = tt

  flipped_by : (type n : ℕ) (o : Operator) (v : Value) → Q v → Asked Q (flipped type n o v)
  flipped_by type n o v q = go (eqb type integer_type) (eqb type truth_type)
    where
      go : (a b : Bool) → Asked Q (cond a (minuses n o v) (cond b (truth_flips n o v) (no_flips n o v)))
      go true b = minuses_by n o v q
      go false true = truth_by n o v q
      go false false = none_by n o v q

  unturned_by : (n : ℕ) (first : Bool) (o : Operator) (v : Value) → Q v → Asked Q (unturned n first o v)
  unturned_by n first o v q = go (first || ltb 0 n)
    where
      go : (b : Bool) → Asked Q (cond b stays (asks o v))
      go true = tt
      go false = q

  pub turned_by : (type : ℕ) (o : Operator) (n : ℕ) (first : Bool) (v : Value) → Q v → Asked Q (turned type o n first v)
  unfolding turned
  turned_by type Equal n first v q = flipped_by type n (cond first (swap_of Equal) Equal) v q
  turned_by type NotEqual n first v q = flipped_by type n (cond first (swap_of NotEqual) NotEqual) v q
  turned_by type Below n first v q = flipped_by type n (cond first (swap_of Below) Below) v q
  turned_by type AtMost n first v q = flipped_by type n (cond first (swap_of AtMost) AtMost) v q
  turned_by type Above n first v q = flipped_by type n (cond first (swap_of Above) Above) v q
  turned_by type AtLeast n first v q = flipped_by type n (cond first (swap_of AtLeast) AtLeast) v q
  turned_by type Distinct n first v q = unturned_by n first Distinct v q
  turned_by type NotDistinct n first v q = unturned_by n first NotDistinct v q

module _ (limit : ℕ) (schema : List ℕ) (P : Predicate → Table → List Statistic → Type 0) (k : Kept schema P) where
  constant_kept : (t : Truth) → P (constant t) (constant_table t) []
  constant_kept False = k.still (constant False) false
  constant_kept Unknown = k.still (constant Unknown) true
  constant_kept True = k.still (constant True) true

  not_kept : (p : Predicate) → P (not p) (not_table p) (not_lists p)
  not_kept (constant t) = k.still (not (constant t)) true
  not_kept (join j l r) = k.still (not (join j l r)) true
  not_kept (not p) = k.still (not (not p)) true
  not_kept (column c) = k.of_not c
  not_kept (is_null c) = k.still (not (is_null c)) true
  not_kept (is_not_null c) = k.still (not (is_not_null c)) true
  not_kept (comparison o c n b v) = k.still (not (comparison o c n b v)) true
  not_kept (list b c n vs) = k.still (not (list b c n vs)) true
  not_kept (like b c v) = k.still (not (like b c v)) true

  like_kept : (b : Bool) (c : Column) (v : Value) → P (like b c v) (like_table b c v) (like_lists b c v)
  like_kept true c v = k.still (like true c v) true
  like_kept false c v = k.of_like c v

  members_kept : (b : Bool) (c : Column) (n : ℕ) (u : Value) (us : List Value) (t : Table) (a : List Statistic) (vs : List Value)
      → P (list b c n (u ∷ us)) t a → P (list b c n (u ∷ (us ++ vs))) (members_table schema b c n t vs) (a ++ members_lists schema b c n vs)
  unfolding members_table members_lists
  members_kept b c n u us t a [] h = rw (append-nil us, append-nil a) h
  members_kept b c n u us t a (v ∷ vs) h =
      let o = list_operator b in
      let m = comparison_table schema o c n false v in
      let ss = comparison_statistics schema o c n false v in
      rw (← append_assoc us (v ∷ []) vs, ← append_assoc a ss (members_lists schema b c n vs))
      (members_kept b c n u (us ++ (v ∷ [])) (joined (list_joining b) t m) (a ++ ss) vs (k.of_more b c n u us v t a h))

  list_kept : (b : Bool) (c : Column) (n : ℕ) (vs : List Value) (within : Bool)
      → P (list b c n vs) (cond within (nested_table schema b c n vs) unhandled) (cond within (members_lists schema b c n vs) [])
  unfolding members_lists
  list_kept b c n vs false = k.still (list b c n vs) true
  list_kept b c n [] true = k.still (list b c n []) true
  list_kept b c n (v ∷ vs) true =
      let o = list_operator b in
      members_kept b c n v [] (comparison_table schema o c n false v) (comparison_statistics schema o c n false v) vs (k.of_one b c n v)

  pub rewritten_by : (p : Predicate) → P p (rewritten limit schema p) (lists limit schema p)
  unfolding rewritten lists
  rewritten_by (constant t) = constant_kept t
  rewritten_by (join j l r) =
      k.joins j l r (rewritten limit schema l) (rewritten limit schema r) (lists limit schema l) (lists limit schema r) (rewritten_by l) (rewritten_by r)
  rewritten_by (not p) = not_kept p
  rewritten_by (column c) = k.of_column c
  rewritten_by (is_null c) = k.of_null c
  rewritten_by (is_not_null c) = k.of_not_null c
  rewritten_by (comparison o c n b v) = k.of_comparison o c n b v
  rewritten_by (list b c n vs) = list_kept b c n vs (leb (length vs) limit)
  rewritten_by (like b c v) = like_kept b c v
