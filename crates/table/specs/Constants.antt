-- Tables that are a constant and tables with none in them, and what joins and forms make of them; proofs/Constants.antt has that
-- rewriting yields no others. Assumes nothing.
use Rattle.std.specs.Prelude.{◌≡◌, refl, Bool, true, false, ◌⊎◌, List, ℕ}
use Rattle.std.proofs.Common.{inl, inr}
use Rattle.std.proofs.Math.Option.{Option, some, none}
use Rattle.operators.specs.declared.Operator.{Operator}
use Rattle.operators.specs.declared.Operator.TheVariants.{Equal, NotEqual, Below, AtMost, Above, AtLeast, Distinct, NotDistinct}
use Rattle.kleene.specs.declared.Joining.{Joining}
use Rattle.kleene.specs.declared.Joining.TheVariants.{And, Or}
use Rattle.literals.specs.Literals.{Value}
use Rattle.predicate.specs.declared.Column.{Column}
use Rattle.table.specs.declared.Known.TheVariants.{Open}
use Rattle.table.specs.Tables.{Table, always, both, against, positive, differ, holds, negation, known, joined}
use Rattle.table.specs.Comparisons.{Turned, asks, stays, comparison_form, turned_form, bounded_form}
use Rattle.table.specs.Induction.{distinct_by, not_distinct_by}

-- no constant stands anywhere in it
abbrev pub Solid : Table → Type 0
Solid (always b) = ⊥
Solid (both j l r) = Solid l × Solid r
Solid (against o s b v) = Unit {0}
Solid (positive s) = Unit {0}
Solid (differ s t) = Unit {0}
Solid (holds s) = Unit {0}
Solid (negation t) = Solid t

-- a constant, or solid
abbrev pub RootOnly : Table → Type 0
RootOnly t = ((b : Bool) × (t ≡ always b)) ⊎ Solid t

pub constant_root : (b : Bool) → RootOnly (always b)
constant_root b = inl (b, refl)

pub solid_open : (t : Table) → Solid t → known t ≡ Open
solid_open (always b) s = absurd s
solid_open (both j l r) s = refl
solid_open (against o s₀ b v) s = refl
solid_open (positive s₀) s = refl
solid_open (differ s₀ t) s = refl
solid_open (holds s₀) s = refl
solid_open (negation t) s = refl

-- ---- folding

pub left_constant : (j : Joining) (b : Bool) (r : Table) → RootOnly r → RootOnly (joined j (always b) r)
left_constant And true r h = h
left_constant And false r h = constant_root false
left_constant Or true r h = constant_root true
left_constant Or false r h = h

pub right_constant : (j : Joining) (l : Table) (b : Bool) → Solid l → RootOnly (joined j l (always b))
right_constant And l true s = rw (solid_open l s) (inr s)
right_constant And l false s = rw (solid_open l s) (constant_root false)
right_constant Or l true s = rw (solid_open l s) (constant_root true)
right_constant Or l false s = rw (solid_open l s) (inr s)

pub both_solid : (j : Joining) (l r : Table) → Solid l → Solid r → RootOnly (joined j l r)
both_solid And l r s t = rw (solid_open l s, solid_open r t) (inr (s, t))
both_solid Or l r s t = rw (solid_open l s, solid_open r t) (inr (s, t))

-- ---- leaves

pub form_solid : (c : Column) (o : Operator) (v : Value) → Solid (comparison_form c o v)
form_solid c Equal v = (tt, (tt, tt))
form_solid c NotEqual v = (tt, (tt, tt))
form_solid c Below v = (tt, tt)
form_solid c AtMost v = (tt, tt)
form_solid c Above v = (tt, tt)
form_solid c AtLeast v = (tt, tt)
form_solid c Distinct v = distinct_by Solid c v tt (tt, (tt, tt))
form_solid c NotDistinct v = not_distinct_by Solid c v tt (tt, (tt, tt))

pub turned_root : (c : Column) (t : Turned) → RootOnly (turned_form c t)
turned_root c (asks o v) = inr (form_solid c o v)
turned_root c stays = constant_root true

pub bounded_root : (c : Column) (prefix : List ℕ) (upper : Option (List ℕ)) → RootOnly (bounded_form c prefix upper)
bounded_root c prefix none = constant_root true
bounded_root c prefix (some upper) = inr (tt, (tt, tt))
