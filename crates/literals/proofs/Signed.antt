-- What minus makes of an integer of 64 bits has 64 bits. Assumes nothing.
use Rattle.std.specs.Prelude.{◌≡◌, refl, Bool, true, false, ℕ, zero, suc, ◌-◌, ◌^◌, ◌<◌, eqb, ℤ, pos, negsuc, Some, None}
use Rattle.std.proofs.Common.{sym, ap, ◌∙◌, arith, eqb-true}
use Rattle.std.proofs.lemmas.Bool.{eqb-false}
use Rattle.literals.specs.Signed.{Fits64, negated, negated_is, negated_least}

-- and has 64 bits, as the one minus that has not is left unhandled
pub negated_fits : (z y : ℤ) → negated z ≡ Some y → Fits64 z → Fits64 y
negated_fits (pos zero) y e h = rw (negated_is (pos zero) y e) h
negated_fits (pos (suc n)) y e h = rw (negated_is (pos (suc n)) y e) (omega arith)
negated_fits (negsuc n) y e h = rw (negated_is (negsuc n) y e) (go (eqb n (2 ^ 63 - 1)) refl)
  where
    go : (t : Bool) → eqb n (2 ^ 63 - 1) ≡ t → suc n < 2 ^ 63
    go true f =
        let g : Some y ≡ None = sym e ∙ ap (λ k. negated (negsuc k)) (eqb-true n (2 ^ 63 - 1) f) ∙ negated_least in
        let z : ◌≡◌ {A = ℕ} 0 1 = cc in
        absurd (omega arith)
    go false f = let k = eqb-false n (2 ^ 63 - 1) f in omega arith
