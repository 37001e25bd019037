-- The flips still to take of a comparison, and one of them taken. Assumes nothing.
use native.Mathlib.Numerals.{sub-one}
use Rattle.std.proofs.Common.{zero, ◌≡◌, refl, sym, ◌∙◌, ap, List, ℕ, suc, ◌+◌, ◌-◌, ◌<◌, ◌≤◌, arith, ◌⊎◌, inl, inr}
use Rattle.std.specs.Prelude.{ℤ, Option, Some, None, Bool}
use Rattle.operators.specs.Operators.{swap_of}
use Rattle.operators.specs.declared.Operator.{Operator}
use Rattle.operators.specs.declared.Operator.TheVariants.{Equal, NotEqual, Below, AtMost, Above, AtLeast, Distinct, NotDistinct}
use Rattle.literals.specs.Signed.{negated}
use Rattle.literals.specs.Literals.{Value, null, int, text, truth, value_of, LiteralFits, LiteralInside}
use Rattle.literals.specs.declared.Literal.{Literal}
use Rattle.literals.specs.declared.Literal.TheVariants.{Int}
use Rattle.table.specs.Comparisons.{Turned, asks, stays, minus_int, minus, minuses, flip_once, ordered, unturned, turned}
use Rattle.turning.specs.Turns.{Turns, Negates}
use Rattle.turning.specs.declared.Against.{Against}

-- f of what one step answers, where it is handled
abbrev pub after : (Operator → Value → Turned) → Turned → Turned
after f (asks o v) = f o v
after f stays = stays

-- one minus, then the others
minus_after : (f : Operator → Value → Turned) (o : Operator) (v : Value) → minus f o v ≡ after f (minus asks o v)
minus_after f o null = refl
minus_after f o (int z) = go (negated z)
  where
    go : (r : Option ℤ) → minus_int f o r ≡ after f (minus_int asks o r)
    go (Some y) = refl
    go None = refl
minus_after f o (text bs) = refl
minus_after f o (truth b) = refl

more_minuses : (n m : ℕ) (o : Operator) (v : Value) → n ≡ suc m → minuses n o v ≡ after (minuses m) (minus asks o v)
unfolding minuses
more_minuses n m o v e = rw e (minus_after (minuses m) o v)

-- n minuses of a are left of f of the literal l
pub record Rest (n : ℕ) (f : Value → Turned) (l : Literal) (a : Against) : Type 0 where
  pub value : (pool : List ℕ) → minuses n a.operator (value_of pool a.literal) ≡ f (value_of pool l)
  pub inside : (pool : List ℕ) → LiteralInside pool l → LiteralInside pool a.literal
  pub fits : LiteralFits l → LiteralFits a.literal

pub rest_all : (n : ℕ) (a : Against) → Rest n (minuses n a.operator) a.literal a
rest_all n a = record { value = λ pool. refl; inside = λ pool h. h; fits = λ h. h }

module _ (n done : ℕ) (f : Value → Turned) (l : Literal) (a : Against) (rest : Rest (n - done) f l a) where
  pub rest_next : (b : Against) → done < n → Turns (minus asks a.operator) a.literal (Some b) → Rest (n - (done + 1)) f l b
  rest_next b more t =
      let e : n - done ≡ suc (n - (done + 1)) = omega arith in
      record {
        value = λ pool. ap (after (minuses (n - (done + 1)))) (t.value pool) ∙ sym (more_minuses (n - done) (n - (done + 1)) a.operator (value_of pool a.literal) e) ∙ rest.value pool;
        inside = λ pool h. t.inside pool (rest.inside pool h);
        fits = λ h. t.fits (rest.fits h);
      }

  pub rest_stays : done < n → Turns (minus asks a.operator) a.literal None → Turns f l None
  rest_stays more t =
      let e : n - done ≡ suc (n - (done + 1)) = omega arith in
      record {
        value = λ pool. ap (after (minuses (n - (done + 1)))) (t.value pool) ∙ sym (more_minuses (n - done) (n - (done + 1)) a.operator (value_of pool a.literal) e) ∙ rest.value pool;
        inside = λ pool h. tt;
        fits = λ h. tt;
      }

  pub rest_none : n ≤ done → Turns f l (Some a)
  unfolding minuses
  rest_none end =
      let e : n - done ≡ 0 = omega arith in
      record { value = λ pool. rw e at (rest.value pool); inside = rest.inside; fits = rest.fits }

-- = and ≠ negate the literal
pub flip_negates : (o : Operator) (l k : Literal) → (o ≡ Equal) ⊎ (o ≡ NotEqual) → Negates l k → Turns (flip_once o) l (Some (record { operator = o; literal = k }))
flip_negates o l k (inl e) t = rw e (record { value = λ pool. rw (t.value pool); inside = t.inside; fits = t.fits })
flip_negates o l k (inr e) t = rw e (record { value = λ pool. rw (t.value pool); inside = t.inside; fits = t.fits })

-- ---- by operator

pub turned_distinct : (type : ℕ) (o : Operator) (flips : ℕ) (first : Bool) (v : Value) → (o ≡ Distinct) ⊎ (o ≡ NotDistinct)
    → turned type o flips first v ≡ unturned flips first o v
unfolding turned
turned_distinct type o flips first v (inl e) = rw e
turned_distinct type o flips first v (inr e) = rw e

pub turned_swap : (type : ℕ) (o : Operator) (flips : ℕ) (first : Bool) (v : Value) → (o ≡ Distinct → ⊥) → (o ≡ NotDistinct → ⊥)
    → turned type o flips first v ≡ ordered type flips first o v
unfolding turned
turned_swap type Equal flips first v d n = refl
turned_swap type NotEqual flips first v d n = refl
turned_swap type Below flips first v d n = refl
turned_swap type AtMost flips first v d n = refl
turned_swap type Above flips first v d n = refl
turned_swap type AtLeast flips first v d n = refl
turned_swap type Distinct flips first v d n = absurd (d refl)
turned_swap type NotDistinct flips first v d n = absurd (n refl)

-- the same by another definition
pub turns_as : (f g : Value → Turned) (l : Literal) (r : Option Against) → ((v : Value) → g v ≡ f v) → Turns f l r → Turns g l r
turns_as f g l r e t = record { value = λ pool. t.value pool ∙ sym (e (value_of pool l)); inside = t.inside; fits = t.fits }

-- an operator that has no swap, kept as it stands
pub turned_kept : (type : ℕ) (o : Operator) (flips : ℕ) (first : Bool) (l : Literal) (r : Option Against) → (o ≡ Distinct) ⊎ (o ≡ NotDistinct)
    → Turns (unturned flips first o) l r → Turns (turned type o flips first) l r
turned_kept type o flips first l r e =
    turns_as (unturned flips first o) (turned type o flips first) l r (λ v. turned_distinct type o flips first v e)

-- ---- a minus of an integer, said of all the minuses

minuses_more : (n : ℕ) (o : Operator) (v : Value) → (n ≡ 0 → ⊥) → minuses n o v ≡ minus (minuses (n - 1)) o v
unfolding minuses
minuses_more zero o v h = absurd (h refl)
minuses_more (suc n) o v h = rw sub-one

module _ (n : ℕ) (o : Operator) (more : n ≡ 0 → ⊥) where
  pub minus_int_lem : (p : Operator) (x y : ℤ) (r : Option Against) → p ≡ swap_of o → negated x ≡ Some y → Turns (minuses (n - 1) p) (Int y) r
      → Turns (minuses n o) (Int x) r
  minus_int_lem p x y r e h t = record { value = λ pool. t.value pool ∙ rw (e, minuses_more n o (int x) more, h); inside = t.inside; fits = t.fits }
