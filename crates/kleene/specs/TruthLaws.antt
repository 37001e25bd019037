-- When a join of truth values is false, and when it is true; a false judgement that refutes true ones. Assumes nothing.
use Rattle.std.specs.Prelude.{◌≡◌, refl, Bool, true, false, ◌⊎◌, ℕ}
use Rattle.std.proofs.Common.{sym, inl, inr, ⊎_elim, arith}
use Rattle.kleene.specs.declared.Truth.{Truth}
use Rattle.kleene.specs.declared.Truth.TheVariants.{False, Unknown, True}
use Rattle.kleene.specs.declared.Joining.{Joining}
use Rattle.kleene.specs.declared.Joining.TheVariants.{And, Or}
use Rattle.kleene.specs.Truths.{truth_of, kleene_and, kleene_or, kleene_not, kleene}

pub false_true : {A : Type 0} → False ≡ True → A
false_true e = let z : ◌≡◌ {A = ℕ} 0 1 = cc in absurd (omega arith)

pub unknown_false : {A : Type 0} → Unknown ≡ False → A
unknown_false e = let z : ◌≡◌ {A = ℕ} 0 1 = cc in absurd (omega arith)

pub unknown_true : {A : Type 0} → Unknown ≡ True → A
unknown_true e = let z : ◌≡◌ {A = ℕ} 0 1 = cc in absurd (omega arith)

pub truth_true : (b : Bool) → truth_of b ≡ True → b ≡ true
truth_true true e = refl
truth_true false e = false_true e

pub truth_false : (b : Bool) → truth_of b ≡ False → b ≡ false
truth_false true e = false_true (sym e)
truth_false false e = refl

pub not_true : (a : Truth) → kleene_not a ≡ True → a ≡ False
not_true False e = refl
not_true Unknown e = unknown_true e
not_true True e = false_true e

pub not_false : (a : Truth) → kleene_not a ≡ False → a ≡ True
not_false False e = false_true (sym e)
not_false Unknown e = unknown_false e
not_false True e = refl

-- ---- joins

pub and_false : (a b : Truth) → kleene_and a b ≡ False → (a ≡ False) ⊎ (b ≡ False)
and_false False b e = inl refl
and_false Unknown False e = inr refl
and_false Unknown Unknown e = inl e
and_false Unknown True e = inl e
and_false True False e = inr refl
and_false True Unknown e = inr e
and_false True True e = inr e

pub and_true : (a b : Truth) → kleene_and a b ≡ True → (a ≡ True) × (b ≡ True)
and_true False False e = (e, e)
and_true False Unknown e = false_true e
and_true False True e = (e, refl)
and_true Unknown False e = false_true e
and_true Unknown Unknown e = (e, e)
and_true Unknown True e = (e, refl)
and_true True False e = (refl, e)
and_true True Unknown e = (refl, e)
and_true True True e = (refl, refl)

pub or_false : (a b : Truth) → kleene_or a b ≡ False → (a ≡ False) × (b ≡ False)
or_false False False e = (refl, refl)
or_false False Unknown e = (refl, e)
or_false False True e = (refl, e)
or_false Unknown False e = (e, refl)
or_false Unknown Unknown e = (e, e)
or_false Unknown True e = false_true (sym e)
or_false True False e = (e, refl)
or_false True Unknown e = false_true (sym e)
or_false True True e = (e, e)

pub or_true : (a b : Truth) → kleene_or a b ≡ True → (a ≡ True) ⊎ (b ≡ True)
or_true False False e = inl e
or_true False Unknown e = inr e
or_true False True e = inr refl
or_true Unknown False e = inl e
or_true Unknown Unknown e = inl e
or_true Unknown True e = inr refl
or_true True b e = inl refl

pub true_left : (a b : Truth) → a ≡ True → kleene_or a b ≡ True
true_left False b e = false_true e
true_left Unknown b e = unknown_true e
true_left True False e = refl
true_left True Unknown e = refl
true_left True True e = refl

pub true_right : (a b : Truth) → b ≡ True → kleene_or a b ≡ True
true_right False b e = rw e
true_right Unknown b e = rw e
true_right True b e = true_left True b refl

-- a join that is true is true with its sides regrouped
pub regrouped : (j : Joining) (a b c : Truth) → kleene j a (kleene j b c) ≡ True → kleene j (kleene j a b) c ≡ True
regrouped And a b c e = let h = and_true a (kleene_and b c) e in let k = and_true b c h.1 in rw (h.0, k.0, k.1)
regrouped Or a b c e =
    ⊎_elim (λ h. true_left (kleene_or a b) c (true_left a b h))
    (λ h. ⊎_elim (λ k. true_left (kleene_or a b) c (true_right a b k)) (λ k. true_right (kleene_or a b) c k) (or_true b c h))
    (or_true a (kleene_or b c) e)

-- ---- a false judgement refutes

-- where a is false, x is not true
unfoldable pub Refutes : Truth → Truth → Type 0
Refutes a x = a ≡ False → x ≡ True → ⊥

-- joins of judgements that refute do too
pub refutes_both : (j : Joining) (a b x y : Truth) → Refutes a x → Refutes b y → Refutes (kleene j a b) (kleene j x y)
unfolding Refutes
refutes_both And a b x y f g e h = ⊎_elim (λ p. f p (and_true x y h).0) (λ p. g p (and_true x y h).1) (and_false a b e)
refutes_both Or a b x y f g e h = ⊎_elim (λ p. f (or_false a b e).0 p) (λ p. g (or_false a b e).1 p) (or_true x y h)
