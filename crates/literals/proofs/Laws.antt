-- The machine's reading of 64 bits, and its minus; what suits asks of each type. Assumes nothing.
use Rattle.std.proofs.Common.{◌≡◌, sym, ap, ◌∙◌, Bool, true, false, ℕ, zero, suc, ◌-◌, ◌^◌, ◌<◌, ltb, ltb-true, ltb-false, arith, ℤ, pos, negsuc, neg_ℤ, ◌-ℤ◌, w64, FitsSigned, refl, Some, None, List, eqb, leb, ◌&&◌}
use Rattle.std.specs.Int.{cast_signed, cast_unsigned}
use Rattle.std.proofs.Math.Facts.{to_z-neg}
use Rattle.std.proofs.Math.IntN.{+ℤ_idl}
use Rattle.std.proofs.lemmas.Int.{to_z-of_z, to_z_pos}
use Rattle.literals.specs.Literals.{type_of, length_of, offset_of, null_type, integer_type, text_type, truth_type, integer_bytes, inside, suits}
use Rattle.literals.specs.Signed.{signed, signed_low, signed_high, least_integer, negated, negated_least, negated_to}

-- 64 bits in two's complement
pub signed_is : (n : ℕ) → n < 2 ^ 64 → cast_signed w64 n ≡ signed n
signed_is n h = go (ltb n (2 ^ 63)) refl
  where
    go : (t : Bool) → ltb n (2 ^ 63) ≡ t → cast_signed w64 n ≡ signed n
    go true e =
        let l = ltb-true n (2 ^ 63) e in
        to_z_pos w64 n l ∙ sym (signed_low n l)
    go false e =
        let g = ltb-false n (2 ^ 63) e in
        let k : ℕ = 2 ^ 64 - 1 - n in
        let m : n ≡ 2 ^ 64 - suc k = omega arith in
        ap (cast_signed w64) m ∙ to_z-neg w64 k (omega arith) ∙ sym (signed_high n g)

-- minus an integer of 64 bits but the least has 64 bits
pub neg_fits : (z : ℤ) → FitsSigned w64 z → (z ≡ least_integer → ⊥) → FitsSigned w64 (neg_ℤ z)
neg_fits (pos zero) f h = f
neg_fits (pos (suc n)) f h = record { sfits = omega (arith, f.sfits) }
neg_fits (negsuc n) f h =
    let g : n ≡ 2 ^ 63 - 1 → ⊥ = λ e. h (ap negsuc e) in
    record { sfits = omega arith }

-- the least is the one whose bits are 2 ^ 63
pub bits_least : (z : ℤ) → FitsSigned w64 z → cast_unsigned w64 z ≡ 2 ^ 63 → z ≡ least_integer
bits_least (pos n) f e = absurd (omega arith)
bits_least (negsuc n) f e = ap negsuc (omega arith)

module _ (z : ℤ) (f : FitsSigned w64 z) where
  -- minus the least is left unhandled
  pub minus_least : cast_unsigned w64 z ≡ 2 ^ 63 → None ≡ negated z
  minus_least e = sym (ap negated (bits_least z f e) ∙ negated_least)

  -- and 0 - z is minus any other
  pub minus_other : (cast_unsigned w64 z ≡ 2 ^ 63 → ⊥) → Some (cast_signed w64 (cast_unsigned w64 (pos 0 -ℤ cast_signed w64 (cast_unsigned w64 z)))) ≡ negated z
  minus_other h =
      let g : z ≡ least_integer → ⊥ = λ e. h (ap (cast_unsigned w64) e) in
      rw (to_z-of_z w64 z f, +ℤ_idl, to_z-of_z w64 (neg_ℤ z) (neg_fits z f g)) (sym (negated_to z g))

-- the type picks its test
module _ (pool : List ℕ) (type w : ℕ) where
  pub suits_null : type_of w ≡ null_type → true ≡ suits pool type w
  unfolding suits
  suits_null e = rw e

  pub suits_integer : type_of w ≡ integer_type → suits pool type w ≡ (eqb type integer_type && (eqb (length_of w) integer_bytes && inside pool w))
  unfolding suits
  suits_integer e = rw e

  pub suits_text : type_of w ≡ text_type → suits pool type w ≡ (eqb type text_type && inside pool w)
  unfolding suits
  suits_text e = rw e

  pub suits_truth : type_of w ≡ truth_type → suits pool type w ≡ (eqb type truth_type && (eqb (length_of w) 0 && leb (offset_of w) 1))
  unfolding suits
  suits_truth e = rw e
