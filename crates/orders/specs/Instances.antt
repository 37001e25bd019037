-- The orders of the column types: integers, text by bytes, truth values. Assumes nothing.
use Rattle.std.specs.Prelude.{◌≡◌, refl, Bool, true, false, not, ◌||◌, List, ℕ, leb, ltb as below_ℕ, ℤ, pos, negsuc}
use Rattle.std.proofs.Common.{sym, ap, true≢false, arith, le-leb, leb-true, leb-false, lt-ltb, le-ltb}
use Rattle.std.specs.Int.Signed.{le_z, lt_z}
use Rattle.words.specs.Bytes.{below, up_to, up_to_refl, up_to_trans, up_to_anti, up_to_total}
use Rattle.orders.specs.Order.{TotalOrder, ltb}

-- ---- integers

pub le_z_refl : (a : ℤ) → le_z a a ≡ true
le_z_refl (pos a) = le-leb a a (omega arith)
le_z_refl (negsuc a) = le-leb a a (omega arith)

trans_leb : (a b c : ℕ) → leb a b ≡ true → leb b c ≡ true → leb a c ≡ true
trans_leb a b c e f = let p = leb-true a b e in let q = leb-true b c f in le-leb a c (omega arith)

anti_leb : (a b : ℕ) → leb a b ≡ true → leb b a ≡ true → a ≡ b
anti_leb a b e f = let p = leb-true a b e in let q = leb-true b a f in omega arith

total_leb : (a b : ℕ) → leb a b ≡ false → leb b a ≡ true
total_leb a b e = let p = leb-false a b e in le-leb b a (omega arith)

pub le_z_trans : (a b c : ℤ) → le_z a b ≡ true → le_z b c ≡ true → le_z a c ≡ true
le_z_trans (pos a) (pos b) (pos c) e f = trans_leb a b c e f
le_z_trans (pos a) (pos b) (negsuc c) e f = f
le_z_trans (pos a) (negsuc b) c e f = absurd (true≢false (sym e))
le_z_trans (negsuc a) (pos b) (pos c) e f = refl
le_z_trans (negsuc a) (pos b) (negsuc c) e f = absurd (true≢false (sym f))
le_z_trans (negsuc a) (negsuc b) (pos c) e f = refl
le_z_trans (negsuc a) (negsuc b) (negsuc c) e f = trans_leb c b a f e

pub le_z_anti : (a b : ℤ) → le_z a b ≡ true → le_z b a ≡ true → a ≡ b
le_z_anti (pos a) (pos b) e f = ap pos (anti_leb a b e f)
le_z_anti (pos a) (negsuc b) e f = absurd (true≢false (sym e))
le_z_anti (negsuc a) (pos b) e f = absurd (true≢false (sym f))
le_z_anti (negsuc a) (negsuc b) e f = ap negsuc (anti_leb a b f e)

pub le_z_total : (a b : ℤ) → le_z a b ≡ false → le_z b a ≡ true
le_z_total (pos a) (pos b) e = total_leb a b e
le_z_total (pos a) (negsuc b) e = refl
le_z_total (negsuc a) (pos b) e = absurd (true≢false e)
le_z_total (negsuc a) (negsuc b) e = total_leb b a e

abbrev pub numbers : TotalOrder
numbers = record { Value = ℤ; leb = le_z; le_refl = le_z_refl; le_trans = le_z_trans; le_anti = le_z_anti; le_total = le_z_total }

-- ---- texts

abbrev pub texts : TotalOrder
texts = record { Value = List ℕ; leb = up_to; le_refl = up_to_refl; le_trans = up_to_trans; le_anti = up_to_anti; le_total = up_to_total }

-- ---- truth values: false lies below true

abbrev pub le_t : Bool → Bool → Bool
le_t a b = not a || b

pub le_t_refl : (a : Bool) → le_t a a ≡ true
le_t_refl true = refl
le_t_refl false = refl

pub le_t_trans : (a b c : Bool) → le_t a b ≡ true → le_t b c ≡ true → le_t a c ≡ true
le_t_trans true true c e f = f
le_t_trans true false c e f = absurd (true≢false (sym e))
le_t_trans false b c e f = refl

pub le_t_anti : (a b : Bool) → le_t a b ≡ true → le_t b a ≡ true → a ≡ b
le_t_anti true b e f = sym e
le_t_anti false true e f = f
le_t_anti false false e f = refl

pub le_t_total : (a b : Bool) → le_t a b ≡ false → le_t b a ≡ true
le_t_total true true e = refl
le_t_total true false e = refl
le_t_total false b e = absurd (true≢false e)

abbrev pub truths : TotalOrder
truths = record { Value = Bool; leb = le_t; le_refl = le_t_refl; le_trans = le_t_trans; le_anti = le_t_anti; le_total = le_t_total }

-- ---- each type's own strict test

ltb_leb : (a b : ℕ) → below_ℕ a b ≡ not (leb b a)
ltb_leb a b = go (leb b a) refl
  where
    go : (x : Bool) → leb b a ≡ x → below_ℕ a b ≡ not x
    go true e = let h = leb-true b a e in le-ltb a b (omega arith)
    go false e = let h = leb-false b a e in lt-ltb a b (omega arith)

pub lt_z_numbers : (a b : ℤ) → lt_z a b ≡ ltb numbers a b
lt_z_numbers (pos a) (pos b) = ltb_leb a b
lt_z_numbers (pos a) (negsuc b) = refl
lt_z_numbers (negsuc a) (pos b) = refl
lt_z_numbers (negsuc a) (negsuc b) = ltb_leb b a

not_not : (a : Bool) → a ≡ not (not a)
not_not true = refl
not_not false = refl

pub below_texts : (a b : List ℕ) → below a b ≡ ltb texts a b
unfolding up_to
below_texts a b = not_not (below a b)
