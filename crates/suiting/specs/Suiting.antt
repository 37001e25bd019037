-- Which words suit a type, by tests of the whole word. Assumes nothing.
use Rattle.std.specs.Prelude.{◌≡◌, Bool, ◌&&◌, ◌||◌, List, [], ◌∷◌, length, eqb, ltb}
use Rattle.std.proofs.Math.Path.{refl}
use Rattle.std.proofs.Common.{sym}
use Rattle.std.proofs.Math.Bool.{true, false}
use Rattle.std.proofs.lemmas.Bool.{false≢true}
use Prim.Native.Nat.{ℕ, zero, suc, ◌+◌, ◌*◌, ◌/◌, ◌^◌, ◌≤◌, ◌<◌}
use native.Mathlib.Omega.{arith}
use Rattle.std.proofs.Math.ListN.{get_or}
use Rattle.std.proofs.Math.Dec.{leb}
use borrow.Author.Tests.{eqb-true, eqb-false, leb-true, le-leb, le-ltb}
use Rattle.words.specs.LayoutLaws.{packed_fields}
use Rattle.words.specs.Tests.{and_both, or_other}
use Rattle.literals.specs.Literals.{literal_layout, type_of, length_of, zero_of, offset_of, integer_type, text_type, truth_type, integer_bytes, plain, inside, suits}

-- a word that suits a type, no unnamed field set
abbrev pub fitting : List ℕ → ℕ → ℕ → Bool
fitting pool type w = plain w && suits pool type w

-- a word by its fields
word_fields : (w : ℕ) → w < 2 ^ 64 → w ≡ type_of w * 2 ^ 62 + (length_of w * 2 ^ 48 + (zero_of w * 2 ^ 24 + (offset_of w * 1 + 0)))
word_fields w h = sym (packed_fields literal_layout w h)

-- null suits every type
pub fitting_none : (pool : List ℕ) (type w : ℕ) → w ≡ 0 → fitting pool type w ≡ true
unfolding suits
fitting_none pool type w e = rw e

-- ---- what a word says that is not zero and suits

-- the fields that each type asks
abbrev Asked : List ℕ → ℕ → ℕ → ℕ → Type 0
Asked pool type w zero = ⊥
Asked pool type w (suc zero) = (type ≡ integer_type) × (length_of w ≡ integer_bytes) × (inside pool w ≡ true)
Asked pool type w (suc (suc zero)) = (type ≡ text_type) × (inside pool w ≡ true)
Asked pool type w (suc (suc (suc k))) = (type ≡ truth_type) × (length_of w ≡ 0) × (offset_of w ≤ 1)

-- a test that leads nowhere fails
pub refuted : (b : Bool) → (b ≡ true → ⊥) → b ≡ false
refuted true h = absurd (h refl)
refuted false h = refl

module _ (pool : List ℕ) (type w : ℕ) (below : w < 2 ^ 64) (some : w ≡ 0 → ⊥) where
  pub fitting_zero : fitting pool type w ≡ true → zero_of w ≡ 0
  fitting_zero e =
      let a = and_both (plain w) (suits pool type w) e in
      let b = and_both (eqb (zero_of w) 0) (ltb 0 (type_of w) || (eqb (length_of w) 0 && eqb (offset_of w) 0)) a.0 in
      eqb-true (zero_of w) 0 b.0

  -- a word of type null that is plain is zero
  null_none : plain w ≡ true → type_of w ≡ 0 → ⊥
  null_none e k =
      let rest : Bool = eqb (length_of w) 0 && eqb (offset_of w) 0 in
      let a = and_both (eqb (zero_of w) 0) (ltb 0 (type_of w) || rest) e in
      let b = or_other (ltb 0 (type_of w)) rest a.1 (le-ltb 0 (type_of w) (omega arith)) in
      let c = and_both (eqb (length_of w) 0) (eqb (offset_of w) 0) b in
      let z = eqb-true (zero_of w) 0 a.0 in
      let l = eqb-true (length_of w) 0 c.0 in
      let o = eqb-true (offset_of w) 0 c.1 in
      let f = word_fields w below in
      some (omega arith)

  pub fitting_says : fitting pool type w ≡ true → Asked pool type w (type_of w)
  unfolding suits
  fitting_says e =
      let a = and_both (plain w) (suits pool type w) e in
      go (type_of w) refl a.0 a.1
    where
      go : (k : ℕ) → type_of w ≡ k → plain w ≡ true
          → get_or (true ∷ (eqb type integer_type && (eqb (length_of w) integer_bytes && inside pool w)) ∷ (eqb type text_type && inside pool w)
          ∷ (eqb type truth_type && (eqb (length_of w) 0 && leb (offset_of w) 1)) ∷ []) k false ≡ true
          → Asked pool type w k
      go zero k p e = null_none p k
      go (suc zero) k p e =
          let a = and_both (eqb type integer_type) (eqb (length_of w) integer_bytes && inside pool w) e in
          let b = and_both (eqb (length_of w) integer_bytes) (inside pool w) a.1 in
          (eqb-true _ _ a.0, eqb-true _ _ b.0, b.1)
      go (suc (suc zero)) k p e =
          let a = and_both (eqb type text_type) (inside pool w) e in
          (eqb-true _ _ a.0, a.1)
      go (suc (suc (suc zero))) k p e =
          let a = and_both (eqb type truth_type) (eqb (length_of w) 0 && leb (offset_of w) 1) e in
          let b = and_both (eqb (length_of w) 0) (leb (offset_of w) 1) a.1 in
          (eqb-true _ _ a.0, eqb-true _ _ b.0, leb-true _ _ b.1)
      go (suc (suc (suc (suc k)))) q p f = absurd (false≢true f)

-- ---- by tests of the whole word

module _ (pool : List ℕ) (w : ℕ) (below : w < 2 ^ 64) (some : w ≡ 0 → ⊥) where
  -- type 1, length 8 and zero field 0 are the top 40 bits
  pub integer_fits : w / 2 ^ 24 ≡ 275012124672 → fitting pool integer_type w ≡ leb (offset_of w + 8) (length pool)
  unfolding suits
  integer_fits e =
      let t : type_of w ≡ 1 = omega arith in
      let l : length_of w ≡ 8 = omega arith in
      let z : zero_of w ≡ 0 = omega arith in
      simp (t, l, z)

  pub integer_unfit : (w / 2 ^ 24 ≡ 275012124672 → ⊥) → fitting pool integer_type w ≡ false
  integer_unfit n =
      refuted (fitting pool integer_type w)
      (λ e. go (type_of w) refl (fitting_zero pool integer_type w below some e) (fitting_says pool integer_type w below some e))
    where
      go : (k : ℕ) → type_of w ≡ k → zero_of w ≡ 0 → Asked pool integer_type w k → ⊥
      go zero k z a = a
      go (suc zero) k z a = let l = a.1 in let f = word_fields w below in n (omega arith)
      go (suc (suc zero)) k z a = let t = a.0 in omega arith
      go (suc (suc (suc m))) k z a = let t = a.0 in omega arith

  pub text_fits : w / 2 ^ 62 ≡ 2 → zero_of w ≡ 0 → fitting pool text_type w ≡ leb (offset_of w + length_of w) (length pool)
  unfolding suits
  text_fits e z =
      let t : type_of w ≡ 2 = omega arith in
      simp (t, z)

  pub text_unfit : (w / 2 ^ 62 ≡ 2 → ⊥) → fitting pool text_type w ≡ false
  text_unfit n = refuted (fitting pool text_type w) (λ e. go (type_of w) refl (fitting_says pool text_type w below some e))
    where
      go : (k : ℕ) → type_of w ≡ k → Asked pool text_type w k → ⊥
      go zero k a = a
      go (suc zero) k a = let t = a.0 in omega arith
      go (suc (suc zero)) k a = n (omega arith)
      go (suc (suc (suc m))) k a = let t = a.0 in omega arith

  pub field_unfit : (type : ℕ) → (zero_of w ≡ 0 → ⊥) → fitting pool type w ≡ false
  field_unfit type n = refuted (fitting pool type w) (λ e. n (fitting_zero pool type w below some e))

  -- false and true are two words
  truth_fits : w / 2 ≡ 6917529027641081856 → fitting pool truth_type w ≡ true
  unfolding suits
  truth_fits e =
      let t : type_of w ≡ 3 = omega arith in
      let l : length_of w ≡ 0 = omega arith in
      let z : zero_of w ≡ 0 = omega arith in
      let o : offset_of w ≤ 1 = omega arith in
      simp (t, l, z, le-leb _ _ o)

  truth_unfit : (w / 2 ≡ 6917529027641081856 → ⊥) → fitting pool truth_type w ≡ false
  truth_unfit n =
      refuted (fitting pool truth_type w)
      (λ e. go (type_of w) refl (fitting_zero pool truth_type w below some e) (fitting_says pool truth_type w below some e))
    where
      go : (k : ℕ) → type_of w ≡ k → zero_of w ≡ 0 → Asked pool truth_type w k → ⊥
      go zero k z a = a
      go (suc zero) k z a = let t = a.0 in omega arith
      go (suc (suc zero)) k z a = let t = a.0 in omega arith
      go (suc (suc (suc m))) k z a =
          let l = a.1 in
          let o = a.2 in
          let f = word_fields w below in
          n (omega arith)

  pub truth_is : fitting pool truth_type w ≡ eqb (w / 2) 6917529027641081856
  truth_is = go (eqb (w / 2) 6917529027641081856) refl
    where
      go : (b : Bool) → eqb (w / 2) 6917529027641081856 ≡ b → fitting pool truth_type w ≡ b
      go true e = truth_fits (eqb-true (w / 2) 6917529027641081856 e)
      go false e = truth_unfit (eqb-false (w / 2) 6917529027641081856 e)

  -- of no other type is there a word but null's
  none_fits : (type : ℕ) → (type ≡ integer_type → ⊥) → (type ≡ text_type → ⊥) → (type ≡ truth_type → ⊥) → fitting pool type w ≡ false
  none_fits type i t b = refuted (fitting pool type w) (λ e. go (type_of w) (fitting_says pool type w below some e))
    where
      go : (k : ℕ) → Asked pool type w k → ⊥
      go zero a = a
      go (suc zero) a = i a.0
      go (suc (suc zero)) a = t a.0
      go (suc (suc (suc m))) a = b a.0

pub none_is : (pool : List ℕ) (w : ℕ) → w < 2 ^ 64 → (type : ℕ) → (type ≡ integer_type → ⊥) → (type ≡ text_type → ⊥) → (type ≡ truth_type → ⊥)
    → fitting pool type w ≡ eqb w 0
none_is pool w below type i t b = go (eqb w 0) refl
  where
    go : (x : Bool) → eqb w 0 ≡ x → fitting pool type w ≡ x
    go true e = fitting_none pool type w (eqb-true w 0 e)
    go false e = none_fits pool w below (eqb-false w 0 e) type i t b

-- ---- each type's test, whole

module _ (pool : List ℕ) (w : ℕ) (below : w < 2 ^ 64) where
  pub integer_test : fitting pool integer_type w ≡ (eqb w 0 || (eqb (w / 2 ^ 24) 275012124672 && leb (offset_of w + 8) (length pool)))
  integer_test = go (eqb w 0) (eqb (w / 2 ^ 24) 275012124672) refl refl
    where
      go : (x y : Bool) → eqb w 0 ≡ x → eqb (w / 2 ^ 24) 275012124672 ≡ y → fitting pool integer_type w ≡ (x || (y && leb (offset_of w + 8) (length pool)))
      go true y e f = fitting_none pool integer_type w (eqb-true w 0 e)
      go false true e f = integer_fits pool w below (eqb-false w 0 e) (eqb-true _ _ f)
      go false false e f = integer_unfit pool w below (eqb-false w 0 e) (eqb-false _ _ f)

  pub text_test : fitting pool text_type w ≡ (eqb w 0 || (eqb (type_of w) text_type && (eqb (zero_of w) 0 && leb (offset_of w + length_of w) (length pool))))
  text_test = go (eqb w 0) (eqb (type_of w) text_type) (eqb (zero_of w) 0) refl refl refl
    where
      go : (x y z : Bool) → eqb w 0 ≡ x → eqb (type_of w) text_type ≡ y → eqb (zero_of w) 0 ≡ z
          → fitting pool text_type w ≡ (x || (y && (z && leb (offset_of w + length_of w) (length pool))))
      go true y z e f g = fitting_none pool text_type w (eqb-true w 0 e)
      go false true true e f g =
          let t = eqb-true (type_of w) text_type f in
          text_fits pool w below (eqb-false w 0 e) (omega arith) (eqb-true _ _ g)
      go false true false e f g = field_unfit pool w below (eqb-false w 0 e) text_type (eqb-false _ _ g)
      go false false z e f g =
          let t = eqb-false (type_of w) text_type f in
          text_unfit pool w below (eqb-false w 0 e) (λ k. t (omega arith))

  pub truth_test : fitting pool truth_type w ≡ (eqb w 0 || eqb (w / 2) 6917529027641081856)
  truth_test = go (eqb w 0) refl
    where
      go : (x : Bool) → eqb w 0 ≡ x → fitting pool truth_type w ≡ (x || eqb (w / 2) 6917529027641081856)
      go true e = fitting_none pool truth_type w (eqb-true w 0 e)
      go false e = truth_is pool w below (eqb-false w 0 e)
