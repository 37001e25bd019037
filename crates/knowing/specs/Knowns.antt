-- What the rewriting of a node comes to, false, true or open, told by what its parts come to. Assumes nothing.
use Rattle.std.specs.Prelude.{◌≡◌, Bool, true, List, length, get_or}
use Rattle.std.proofs.Math.Path.{refl}
use Rattle.std.proofs.Common.{◌∙◌}
use Rattle.std.proofs.Math.Bool.{false}
use Rattle.std.proofs.Math.Option.{Option, some, none}
use Prim.Native.Nat.{ℕ, zero, suc, ◌+◌, ◌-◌, ◌≤◌, ◌<◌}
use Rattle.std.proofs.Math.Numerals.{sub-one}
use native.Mathlib.Omega.{arith}
use borrow.Author.Tests.{le-leb, lt-leb}
use Rattle.operators.specs.declared.Operator.{Operator}
use Rattle.operators.specs.declared.Operator.TheVariants.{Equal, NotEqual, Below, AtMost, Above, AtLeast, Distinct, NotDistinct}
use Rattle.kleene.specs.declared.Joining.{Joining}
use Rattle.literals.specs.Literals.{Value, null, int, text, truth, value_of, value_at}
use Rattle.literals.specs.declared.Literal.{Literal}
use Rattle.predicate.specs.Predicates.{values_at, length_values}
use Rattle.predicate.specs.declared.Column.{Column}
use Rattle.table.specs.declared.Known.{Known}
use Rattle.table.specs.declared.Known.TheVariants.{True, Open}
use Rattle.table.specs.Tables.{Table, unhandled, known, folds, joined, known_fold, known_folded}
use Rattle.table.specs.Comparisons.{Turned, asks, stays, turned_form, comparison_form, bounded_form, pattern_upper, pattern_prefix, like_table}
use Rattle.table.specs.Rewriting.{comparison_table, list_operator, list_joining, members_table, nested_table, list_table}

-- ---- joins

abbrev pub join_known : Joining → Known → Known → Known
join_known j l r = known_fold (folds j l r) l r

pub known_joined : (j : Joining) (l r : Table) → known (joined j l r) ≡ join_known j (known l) (known r)
known_joined j l r = known_folded (folds j (known l) (known r)) j l r

-- ---- comparisons: open, unless unhandled

abbrev pub known_turned : Turned → Known
known_turned (asks o v) = Open
known_turned stays = True

known_form : (c : Column) (o : Operator) (v : Value) → known (comparison_form c o v) ≡ Open
known_form c Equal v = refl
known_form c NotEqual v = refl
known_form c Below v = refl
known_form c AtMost v = refl
known_form c Above v = refl
known_form c AtLeast v = refl
known_form c Distinct null = refl
known_form c Distinct (int z) = refl
known_form c Distinct (text bs) = refl
known_form c Distinct (truth b) = refl
known_form c NotDistinct null = refl
known_form c NotDistinct (int z) = refl
known_form c NotDistinct (text bs) = refl
known_form c NotDistinct (truth b) = refl

pub known_turned_lem : (c : Column) (t : Turned) → known (turned_form c t) ≡ known_turned t
known_turned_lem c (asks o v) = known_form c o v
known_turned_lem c stays = refl

-- what a comparison with a literal comes to, whatever the pool
abbrev pub KnownComparison : List ℕ → Operator → Column → ℕ → Bool → Literal → Known → Type 0
KnownComparison schema o c n b l k = (pool : List ℕ) → k ≡ known (comparison_table schema o c n b (value_of pool l))

-- ---- LIKE: open, where the pattern has an upper bound

abbrev pub known_bounded : Option (List ℕ) → Known
known_bounded none = True
known_bounded (some upper) = Open

known_bounded_lem : (c : Column) (prefix : List ℕ) (o : Option (List ℕ)) → known (bounded_form c prefix o) ≡ known_bounded o
known_bounded_lem c prefix none = refl
known_bounded_lem c prefix (some upper) = refl

abbrev pub known_like : Bool → Value → Known
known_like true v = True
known_like false v = known_bounded (pattern_upper v)

pub known_like_lem : (b : Bool) (c : Column) (v : Value) → known (like_table b c v) ≡ known_like b v
known_like_lem true c v = refl
known_like_lem false c v = known_bounded_lem c (pattern_prefix v) (pattern_upper v)

-- ---- lists: the members joined from the left

module _ (schema pool ws : List ℕ) (b : Bool) (c : Column) (n : ℕ) where
  -- a member whose literal word stands at a place
  abbrev pub member_known : ℕ → Known
  member_known at = known (comparison_table schema (list_operator b) c n false (value_at pool (get_or ws at 0)))

  -- m members from a place on, behind what comes to k
  unfoldable pub members_known : Known → ℕ → ℕ → Known
  members_known k zero at = k
  members_known k (suc m) at = members_known (join_known (list_joining b) k (member_known at)) m (at + 1)

  known_members : (t : Table) (m at : ℕ) → known (members_table schema b c n t (values_at pool ws m at)) ≡ members_known (known t) m at
  unfolding members_table values_at members_known
  known_members t zero at = refl
  known_members t (suc m) at =
      let v : Value = value_at pool (get_or ws at 0) in
      let u : Table = comparison_table schema (list_operator b) c n false v in
      known_members (joined (list_joining b) t u) m (at + 1) ∙ rw (known_joined (list_joining b) t u)

  -- the first member, then the others
  pub known_nested : (m at : ℕ) → 0 < m → known (nested_table schema b c n (values_at pool ws m at)) ≡ members_known (member_known at) (m - 1) (at + 1)
  unfolding values_at
  known_nested zero at h = absurd (omega arith)
  known_nested (suc m) at h = rw sub-one (known_members (comparison_table schema (list_operator b) c n false (value_at pool (get_or ws at 0))) m (at + 1))

  -- one member more
  pub members_next : (k : Known) (m at i : ℕ) → i < m
      → members_known k (m - i) (at + i) ≡ members_known (join_known (list_joining b) k (member_known (at + i))) (m - (i + 1)) (at + (i + 1))
  unfolding members_known
  members_next k m at i h =
      let e : m - i ≡ suc (m - (i + 1)) = omega arith in
      let a : at + i + 1 ≡ at + (i + 1) = omega arith in
      rw (e, ← a)

  pub members_end : (k : Known) (m at i : ℕ) → m ≤ i → members_known k (m - i) (at + i) ≡ k
  unfolding members_known
  members_end k m at i h = let e : m - i ≡ 0 = omega arith in rw e

-- ---- lists by the number of their literals: none, over the limit, within it

module _ (limit : ℕ) (schema pool ws : List ℕ) (b : Bool) (c : Column) (n m at : ℕ) where
  abbrev table : Table
  table = list_table limit schema b c n (values_at pool ws m at)

  pub list_none : m ≡ 0 → table ≡ unhandled
  unfolding values_at
  list_none e = rw (e, le-leb 0 limit (omega arith))

  pub list_over : limit < m → table ≡ unhandled
  list_over h = let k : limit < length (values_at pool ws m at) = rw length_values h in rw (lt-leb _ _ k)

  pub list_within : m ≤ limit → table ≡ nested_table schema b c n (values_at pool ws m at)
  list_within h = let k : length (values_at pool ws m at) ≤ limit = rw length_values h in rw (le-leb _ _ k)
