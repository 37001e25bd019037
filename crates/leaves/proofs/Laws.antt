-- The members of a list one after the other, a turned comparison, and LIKE. Assumes nothing.
use mathlib.Core.Path.{◌≡◌, refl}
use mathlib.Core.Bool.{Bool, true, false}
use Rattle.std.specs.Prelude.{Option, Some, None}
use mathlib.Core.Option as MathOption
use mathlib.Core.Option.{some, none}
use mathlib.Core.List.{List, [], ◌++◌}
use Prim.Native.Nat.{ℕ, suc, ◌+◌, ◌-◌, ◌≤◌, ◌<◌}
use native.Mathlib.Omega.{arith}
use lib.ListN.{get_or}
use borrow.Author.Tests.{le-leb, lt-leb}
use Rattle.operators.specs.declared.Operator.{Operator}
use Rattle.literals.specs.Literals.{Value, value_of, value_at}
use Rattle.literals.specs.declared.Literal.{Literal}
use Rattle.predicate.specs.Checking.{type_in}
use Rattle.predicate.specs.Predicates.{Read, node_predicate, values_at, length_values}
use Rattle.predicate.specs.declared.Node.{Node}
use Rattle.predicate.specs.declared.Node.TheVariants.{Constant, Join, Not, TruthColumn, IsNull, IsNotNull, Comparison, List as InList, Like}
use Rattle.predicate.specs.declared.Column.{Column}
use Rattle.statistics.specs.declared.Statistic.{Statistic}
use Rattle.table.specs.declared.Known.{Known}
use Rattle.table.specs.declared.Known.TheVariants.{False, True, Open}
use Rattle.knowing.specs.Knowns.{known_bounded, known_like}
use Rattle.table.specs.Comparisons.{turned, comparison_lists, pattern_upper}
use Rattle.table.specs.Rewriting.{list_operator, comparison_statistics, members_lists, list_lists, not_lists}
use Rattle.listing.specs.Listing.{Room, Grown, is_bounded}
use Rattle.listing.specs.ListingLaws.{room_first, room_next, grown_then, grown_none}
use Rattle.turning.specs.Turns.{Turns}
use Rattle.turning.specs.declared.Against.{Against}

-- ---- the members of a list

module _ (schema pool ws : List ℕ) (b : Bool) (c : Column) (flips k at : ℕ) where
  -- what the members from the i-th on ask for
  abbrev pub rest_lists : ℕ → List Statistic
  rest_lists i = members_lists schema b c flips (values_at pool ws (k - i) (at + i))

  -- what the i-th asks for
  abbrev pub one_lists : ℕ → List Statistic
  one_lists i = comparison_statistics schema (list_operator b) c flips false (value_at pool (get_or ws (at + i) 0))

  pub rest_next : (i : ℕ) → i < k → rest_lists i ≡ one_lists i ++ rest_lists (i + 1)
  unfolding members_lists values_at
  rest_next i h =
      let e : k - i ≡ suc (k - (i + 1)) = omega arith in
      let f : at + i + 1 ≡ at + (i + 1) = omega arith in
      rw (e, f)

  pub rest_none : (i : ℕ) → k ≤ i → rest_lists i ≡ []
  unfolding members_lists values_at
  rest_none i h = let e : k - i ≡ 0 = omega arith in rw e

  pub rest_all : rest_lists 0 ≡ members_lists schema b c flips (values_at pool ws k at)
  rest_all = let e : k - 0 ≡ k = omega arith in let f : at + 0 ≡ at = omega arith in rw (e, f)

  -- a list up to the limit, and one over it
  pub list_within : (limit : ℕ) → k ≤ limit
      → list_lists limit schema b c flips (values_at pool ws k at) ≡ members_lists schema b c flips (values_at pool ws k at)
  list_within limit h = rw (length_values pool ws k at, le-leb k limit h)

  pub list_over : (limit : ℕ) → limit < k → list_lists limit schema b c flips (values_at pool ws k at) ≡ []
  list_over limit h = rw (length_values pool ws k at, lt-leb k limit h)

-- ---- listing that is under way

-- growing the list now by the rest is growing the old one by all
pub record Going (all : List Statistic) (n : ℕ) (old : List ℕ) (rest : List Statistic) (m : ℕ) (mid : List ℕ) : Type 0 where
  pub room : Room rest m mid
  pub ends : (new : List ℕ) (r : ℕ) → Grown rest m mid new r → Grown all n old new r

pub going_start : (all rest : List Statistic) (n : ℕ) (old : List ℕ) → rest ≡ all → Room all n old → Going all n old rest n old
going_start all rest n old e h = rw e (record { room = h; ends = λ new r g. g })

module _ (all : List Statistic) (n : ℕ) (old : List ℕ) (rest ss ts : List Statistic) (m : ℕ) (mid : List ℕ) (e : rest ≡ ss ++ ts)
    (h : Going all n old rest m mid) where
  pub going_room : Room ss m mid
  going_room = room_first ss ts m mid (rw e at h.room)

  pub going_next : (p : ℕ) (new : List ℕ) → Grown ss m mid new p → Going all n old ts p new
  going_next p new g =
      record {
        room = room_next ss ts m mid p new g (rw e at h.room);
        ends = λ last r k. h.ends last r (rw e (grown_then ss ts m mid p new g last r h.room.front k));
      }

pub going_end : (all : List Statistic) (n : ℕ) (old : List ℕ) (rest : List Statistic) (m : ℕ) (mid : List ℕ) → rest ≡ []
    → Going all n old rest m mid → Grown all n old mid m
going_end all n old rest m mid e h = h.ends mid m (rw e (grown_none m mid h.room.front))

-- ---- a turned comparison

-- what turning answers, listed
abbrev pub turned_lists_of : Column → Option Against → List Statistic
turned_lists_of c None = []
turned_lists_of c (Some a) = comparison_lists c a.operator

pub turned_lists : (schema : List ℕ) (c : Column) (o : Operator) (flips : ℕ) (first : Bool) (l : Literal) (r : Option Against)
    → Turns (turned (type_in schema c.0) o flips first) l r → (pool : List ℕ)
    → comparison_statistics schema o c flips first (value_of pool l) ≡ turned_lists_of c r
turned_lists schema c o flips first l None t pool = rw (← t.value pool)
turned_lists schema c o flips first l (Some a) t pool = rw (← t.value pool)

-- ---- LIKE

-- an open LIKE has an upper bound, and no other
abbrev pub is_open : Known → Bool
is_open False = false
is_open True = false
is_open Open = true

pub bounded_known : (v : Value) → is_bounded (pattern_upper v) ≡ is_open (known_like false v)
bounded_known v = go (pattern_upper v)
  where
    go : (o : MathOption.Option (List ℕ)) → is_bounded o ≡ is_open (known_bounded o)
    go none = refl
    go (some u) = refl

-- ---- NOT

-- of all but a truth-value column nothing
pub not_other : (f : ℕ → Read) (pool ws : List ℕ) (at : ℕ) (n : Node) → ((c : Column) → n ≡ TruthColumn c → ⊥) → not_lists (node_predicate f pool ws at n).predicate ≡ []
not_other f pool ws at (Constant t) h = refl
not_other f pool ws at (Join j) h = refl
not_other f pool ws at Not h = refl
not_other f pool ws at (TruthColumn c) h = absurd (h c refl)
not_other f pool ws at (IsNull c) h = refl
not_other f pool ws at (IsNotNull c) h = refl
not_other f pool ws at (Comparison o c n b l) h = refl
not_other f pool ws at (InList b c n k) h = refl
not_other f pool ws at (Like b c l) h = refl
