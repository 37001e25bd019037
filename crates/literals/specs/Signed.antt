-- Integers: two's complement in 64 bits, as exact integers; minus, which is exact. `negsuc k` is -(k + 1). Assumes nothing.
use Rattle.std.specs.Prelude.{◌≡◌, refl, Bool, true, false, cond, not, ℕ, ◌-◌, ◌^◌, ◌≤◌, ◌<◌, leb, ltb, eqb, ℤ, pos, negsuc, neg_ℤ, Option, Some, None}
use Rattle.std.proofs.Common.{ap, arith, lt-ltb, le-ltb, ltb-true, ltb-false, leb-true, leb-false, ne_eqb}
use Rattle.std.specs.Int.Signed.{lt_z, le_z}
use Rattle.std.specs.declared.cmp.Ordering.{Ordering}
use Rattle.std.specs.declared.cmp.Ordering.TheVariants.{Less, Equal, Greater}

-- the integer that 64 bits stand for
unfoldable pub signed : ℕ → ℤ
signed n = cond (ltb n (2 ^ 63)) (pos n) (negsuc (2 ^ 64 - 1 - n))

pub signed_low : (n : ℕ) → n < 2 ^ 63 → signed n ≡ pos n
unfolding signed
signed_low n h = rw (lt-ltb n (2 ^ 63) h)

pub signed_high : (n : ℕ) → 2 ^ 63 ≤ n → signed n ≡ negsuc (2 ^ 64 - 1 - n)
unfolding signed
signed_high n h = rw (le-ltb n (2 ^ 63) h)

-- the 64 bits of an integer
abbrev pub bits_of : ℤ → ℕ
bits_of (pos n) = n
bits_of (negsuc n) = 2 ^ 64 - 1 - n

-- an integer that has 64 bits
abbrev pub Fits64 : ℤ → Type 0
Fits64 (pos n) = n < 2 ^ 63
Fits64 (negsuc n) = n < 2 ^ 63

-- the bits of an integer stand for it
pub signed_bits : (z : ℤ) → Fits64 z → signed (bits_of z) ≡ z
signed_bits (pos n) h = signed_low n h
signed_bits (negsuc n) h =
    let e : 2 ^ 64 - 1 - (2 ^ 64 - 1 - n) ≡ n = omega arith in
    rw (signed_high (2 ^ 64 - 1 - n) (omega arith), e)

pub bits_fit : (z : ℤ) → Fits64 z → bits_of z < 2 ^ 64
bits_fit (pos n) h = omega arith
bits_fit (negsuc n) h = omega arith

-- whatever the number: one of 2 ^ 64 or more stands for -1
pub signed_fits : (n : ℕ) → Fits64 (signed n)
signed_fits n = go (ltb n (2 ^ 63)) refl
  where
    go : (t : Bool) → ltb n (2 ^ 63) ≡ t → Fits64 (signed n)
    go true e = let l = ltb-true n (2 ^ 63) e in rw (signed_low n l) l
    go false e = let g = ltb-false n (2 ^ 63) e in rw (signed_high n g) (omega arith)

-- bits are those of the integer that they stand for
pub bits_signed : (n : ℕ) → n < 2 ^ 64 → bits_of (signed n) ≡ n
bits_signed n h = go (ltb n (2 ^ 63)) refl
  where
    go : (t : Bool) → ltb n (2 ^ 63) ≡ t → bits_of (signed n) ≡ n
    go true e = rw (signed_low n (ltb-true n (2 ^ 63) e))
    go false e = let g = ltb-false n (2 ^ 63) e in rw (signed_high n g) (omega arith)

-- -2 ^ 63
abbrev pub least_integer : ℤ
least_integer = negsuc (2 ^ 63 - 1)

-- minus a literal; that of -2 ^ 63 is left unhandled
unfoldable pub negated : ℤ → Option ℤ
negated (pos n) = Some (neg_ℤ (pos n))
negated (negsuc n) = cond (eqb n (2 ^ 63 - 1)) None (Some (neg_ℤ (negsuc n)))

pub negated_least : negated least_integer ≡ None
unfolding negated
negated_least = refl

pub negated_to : (z : ℤ) → (z ≡ least_integer → ⊥) → negated z ≡ Some (neg_ℤ z)
unfolding negated
negated_to (pos n) h = refl
negated_to (negsuc n) h = rw (ne_eqb n (2 ^ 63 - 1) (λ e. h (ap negsuc e)))

-- where it is handled, it is minus
pub negated_is : (z y : ℤ) → negated z ≡ Some y → y ≡ neg_ℤ z
unfolding negated
negated_is (pos n) y e = cc
negated_is (negsuc n) y e = go (eqb n (2 ^ 63 - 1)) e
  where
    go : (b : Bool) → cond b None (Some (neg_ℤ (negsuc n))) ≡ Some y → y ≡ neg_ℤ (negsuc n)
    go true e = cc
    go false e = cc

ltb_leb : (m n : ℕ) → ltb m n ≡ not (leb n m)
ltb_leb m n = go (leb n m) refl
  where
    go : (t : Bool) → leb n m ≡ t → ltb m n ≡ not t
    go true e = le-ltb m n (leb-true n m e)
    go false e = lt-ltb m n (leb-false n m e)

-- how two integers compare
unfoldable pub int_order : ℤ → ℤ → Ordering
int_order a b = cond (lt_z a b) Less (cond (lt_z b a) Greater Equal)

pub int_less : (a b : ℤ) → lt_z a b ≡ true → int_order a b ≡ Less
unfolding int_order
int_less a b h = rw h

pub int_greater : (a b : ℤ) → lt_z a b ≡ false → lt_z b a ≡ true → int_order a b ≡ Greater
unfolding int_order
int_greater a b h k = rw (h, k)

pub int_equal : (a b : ℤ) → lt_z a b ≡ false → lt_z b a ≡ false → int_order a b ≡ Equal
unfolding int_order
int_equal a b h k = rw (h, k)

-- below is the other side of at most
pub below_at_most : (a b : ℤ) → lt_z a b ≡ not (le_z b a)
below_at_most (pos a) (pos b) = ltb_leb a b
below_at_most (pos a) (negsuc b) = refl
below_at_most (negsuc a) (pos b) = refl
below_at_most (negsuc a) (negsuc b) = ltb_leb b a
