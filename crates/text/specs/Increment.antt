-- The increment of a text (increment_utf8 of the source): the last character that can be raised is raised, and what follows it is cut off.
-- The rule for one character is a parameter of the theorems. Assumes nothing.
use Rattle.std.specs.Prelude.{◌≡◌, Bool, false, cond, not, ◌&&◌, ◌||◌, ◌⊎◌, ℕ, suc, ◌+◌, ◌<◌, ◌≤◌, leb}
use Rattle.std.proofs.Math.Path.{refl}
use Rattle.std.proofs.Common.{sym, ◌∙◌, ap, subst, inl, inr, ⊎_elim, arith, leb-true, leb-false}
use Rattle.std.proofs.Math.Bool.{true, and-eq-true_iff}
use Rattle.std.proofs.lemmas.Bool.{false≢true}
use mathlib.Core.List.{List, [], ◌∷◌, ◌++◌, append_assoc, append-nil}
use Rattle.std.proofs.Math.Option.{Option, some, none, some-injective, none-ne-some}
use Rattle.std.proofs.Math.ListN.{length, length-append}
use Rattle.words.specs.Bytes.{below, up_to, below_front, below_up_to}
use Rattle.text.specs.Utf8.{Scalar, Text, encode, bytes_of, bytes_append, encode_below, scalar_top, Size, size, one, two, three, four}

-- c lies in a .. b
abbrev pub within : ℕ → ℕ → ℕ → Bool
within a b c = leb a c && leb c b

-- a surrogate, FDD0 to FDEF, FFFE or FFFF
abbrev pub gap : ℕ → Bool
gap c = within 0xD800 0xDFFF c || (within 0xFDD0 0xFDEF c || within 0xFFFE 0xFFFF c)

-- may stand as a raised character
unfoldable pub allowed : ℕ → Bool
allowed c = not (gap c) && leb c 0x10FFFF

-- the character raised by one, if that may stand
unfoldable pub raised : ℕ → Option ℕ
raised c = cond (allowed (suc c)) (some (suc c)) none

-- a raised tail behind c; where the tail has none, c raised
abbrev pub behind : ℕ → Option ℕ → Option (List ℕ) → Option (List ℕ)
behind c r (some u) = some (c ∷ u)
behind c none none = none
behind c (some d) none = some (d ∷ [])

unfoldable pub increment : (ℕ → Option ℕ) → List ℕ → Option (List ℕ)
increment f [] = none
increment f (c ∷ cs) = behind c (f c) (increment f cs)

-- what a rule for one character has to keep: a scalar value above the old one, at most one byte longer
pub record Raises (f : ℕ → Option ℕ) : Type 0 where
  pub above : (c d : ℕ) → f c ≡ some d → c < d
  pub scalar : (c d : ℕ) → f c ≡ some d → Scalar d
  pub grows : (c d : ℕ) → f c ≡ some d → length (encode d) ≤ length (encode c) + 1

or_left : (a b : Bool) → not (a || b) ≡ true → not a ≡ true
or_left true b e = e
or_left false b e = refl

pub outside : (a b c : ℕ) → not (within a b c) ≡ true → (c < a) ⊎ (b < c)
outside a b c e = go (leb a c) (leb c b) refl refl e
  where
    go : (p q : Bool) → leb a c ≡ p → leb c b ≡ q → not (p && q) ≡ true → (c < a) ⊎ (b < c)
    go true true f g e = absurd (false≢true e)
    go true false f g e = inr (leb-false c b g)
    go false q f g e = inl (leb-false a c f)

pub allowed_scalar : (c : ℕ) → allowed c ≡ true → Scalar c
unfolding allowed
allowed_scalar c e =
    let h = (and-eq-true_iff (not (gap c)) (leb c 0x10FFFF)).0 e in
    let k = leb-true c 0x10FFFF h.1 in
    ⊎_elim (λ p. inl p) (λ p. inr (omega arith, omega arith))
    (outside 0xD800 0xDFFF c (or_left (within 0xD800 0xDFFF c) (within 0xFDD0 0xFDEF c || within 0xFFFE 0xFFFF c) h.0))

pub raised_is : (c d : ℕ) → raised c ≡ some d → (d ≡ suc c) × (allowed d ≡ true)
unfolding raised
raised_is c d e = go (allowed (suc c)) refl e
  where
    go : (p : Bool) → allowed (suc c) ≡ p → cond p (some (suc c)) none ≡ some d → (d ≡ suc c) × (allowed d ≡ true)
    go true h e = let q = some-injective _ _ e in (sym q, rw (← q) h)
    go false h e = absurd (none-ne-some d e)

-- one byte more at most, where no size is passed over
pub grow : (c d : ℕ) → (c < 0x80 → d < 0x800) → (c < 0x800 → d < 0x10000) → length (encode d) ≤ length (encode c) + 1
grow c d f g = go (size c) (size d)
  where
    go : Size c → Size d → length (encode d) ≤ length (encode c) + 1
    go (one a e) (one b h) = rw (e, h) (omega arith)
    go (one a e) (two b b' h) = rw (e, h) (omega arith)
    go (one a e) (three b b' h) = absurd (let k = f a in omega arith)
    go (one a e) (four b h) = absurd (let k = f a in omega arith)
    go (two a a' e) (one b h) = rw (e, h) (omega arith)
    go (two a a' e) (two b b' h) = rw (e, h) (omega arith)
    go (two a a' e) (three b b' h) = rw (e, h) (omega arith)
    go (two a a' e) (four b h) = absurd (let k = g a' in omega arith)
    go (three a a' e) (one b h) = rw (e, h) (omega arith)
    go (three a a' e) (two b b' h) = rw (e, h) (omega arith)
    go (three a a' e) (three b b' h) = rw (e, h) (omega arith)
    go (three a a' e) (four b h) = rw (e, h) (omega arith)
    go (four a e) (one b h) = rw (e, h) (omega arith)
    go (four a e) (two b b' h) = rw (e, h) (omega arith)
    go (four a e) (three b b' h) = rw (e, h) (omega arith)
    go (four a e) (four b h) = rw (e, h) (omega arith)

-- ---- the order theorem

module _ (f : ℕ → Option ℕ) (r : Raises f) where
  pub increment_above : (p u t : List ℕ) → increment f p ≡ some u → below (bytes_of p ++ t) (bytes_of u) ≡ true
  unfolding increment bytes_of
  increment_above [] u t e = absurd (none-ne-some u e)
  increment_above (c ∷ cs) u t e = go (f c) (increment f cs) refl refl (increment_above cs) e
    where
      go : (x : Option ℕ) (y : Option (List ℕ)) → f c ≡ x → increment f cs ≡ y
          → ((v s : List ℕ) → increment f cs ≡ some v → below (bytes_of cs ++ s) (bytes_of v) ≡ true)
          → behind c x y ≡ some u → below ((encode c ++ bytes_of cs) ++ t) (bytes_of u) ≡ true
      go x (some v) a b ih e =
          rw (append_assoc, ← some-injective _ _ e) (below_front (encode c) (bytes_of cs ++ t) (bytes_of v) ∙ ih v t b)
      go none none a b ih e = absurd (none-ne-some u e)
      go (some d) none a b ih e =
          rw (append_assoc, ← some-injective _ _ e) (encode_below c d (bytes_of cs ++ t) [] (r.above c d a) (scalar_top d (r.scalar c d a)))

  -- every string that begins with the text is at most its increment
  pub increment_bounds : (p u t : List ℕ) → increment f p ≡ some u → up_to (bytes_of p ++ t) (bytes_of u) ≡ true
  increment_bounds p u t e = below_up_to _ _ (increment_above p u t e)

  -- the increment of a text is a text
  pub increment_text : (p u : List ℕ) → Text p → increment f p ≡ some u → Text u
  unfolding increment
  increment_text [] u t e = absurd (none-ne-some u e)
  increment_text (c ∷ cs) u t e = go (f c) (increment f cs) refl refl (λ v. increment_text cs v t.1) e
    where
      go : (x : Option ℕ) (y : Option (List ℕ)) → f c ≡ x → increment f cs ≡ y
          → ((v : List ℕ) → increment f cs ≡ some v → Text v) → behind c x y ≡ some u → Text u
      go x (some v) a b ih e = rw (← some-injective _ _ e) (t.0, ih v b)
      go none none a b ih e = absurd (none-ne-some u e)
      go (some d) none a b ih e = rw (← some-injective _ _ e) (r.scalar c d a, tt)

-- ---- the same by its two parts: the characters kept, and the raised one behind them

pub record Raise : Type 0 where
  pub kept : List ℕ
  pub top : ℕ

abbrev pub ahead : ℕ → Option ℕ → Option Raise → Option Raise
ahead c r (some x) = some (record { kept = c ∷ x.kept; top = x.top })
ahead c none none = none
ahead c (some d) none = some (record { kept = []; top = d })

unfoldable pub rise : (ℕ → Option ℕ) → List ℕ → Option Raise
rise f [] = none
rise f (c ∷ cs) = ahead c (f c) (rise f cs)

abbrev pub glue : Option Raise → Option (List ℕ)
glue none = none
glue (some x) = some (x.kept ++ x.top ∷ [])

pub increment_rise : (f : ℕ → Option ℕ) (cs : List ℕ) → increment f cs ≡ glue (rise f cs)
unfolding increment rise
increment_rise f [] = refl
increment_rise f (c ∷ cs) = go (f c) (rise f cs) (increment f cs) (increment_rise f cs)
  where
    go : (r : Option ℕ) (x : Option Raise) (y : Option (List ℕ)) → y ≡ glue x → behind c r y ≡ glue (ahead c r x)
    go r (some x) y e = rw e
    go none none y e = rw e
    go (some d) none y e = rw e

-- from the last character: raised if it can be, else one character back
pub rise_here : (f : ℕ → Option ℕ) (ks : List ℕ) (c d : ℕ) → f c ≡ some d → rise f (ks ++ c ∷ []) ≡ some (record { kept = ks; top = d })
unfolding rise
rise_here f [] c d e = rw e
rise_here f (x ∷ ks) c d e = rw (rise_here f ks c d e)

pub rise_back : (f : ℕ → Option ℕ) (ks : List ℕ) (c : ℕ) → f c ≡ none → rise f (ks ++ c ∷ []) ≡ rise f ks
unfolding rise
rise_back f [] c e = rw e
rise_back f (x ∷ ks) c e = rw (rise_back f ks c e)

-- so the increment too
pub increment_here : (f : ℕ → Option ℕ) (ks : List ℕ) (c d : ℕ) → f c ≡ some d → increment f (ks ++ c ∷ []) ≡ some (ks ++ d ∷ [])
increment_here f ks c d e = increment_rise f (ks ++ c ∷ []) ∙ rw (rise_here f ks c d e)

pub increment_back : (f : ℕ → Option ℕ) (ks : List ℕ) (c : ℕ) → f c ≡ none → increment f (ks ++ c ∷ []) ≡ increment f ks
increment_back f ks c e = rw (increment_rise f (ks ++ c ∷ []), increment_rise f ks, rise_back f ks c e)

-- at most one byte more
module _ (f : ℕ → Option ℕ) (r : Raises f) where
  pub rise_room : (cs : List ℕ) (x : Raise) → rise f cs ≡ some x → length (bytes_of x.kept) + length (encode x.top) ≤ length (bytes_of cs) + 1
  unfolding rise bytes_of
  rise_room [] x e = absurd (none-ne-some x e)
  rise_room (c ∷ cs) x e = go (f c) (rise f cs) refl refl (rise_room cs) e
    where
      go : (r : Option ℕ) (y : Option Raise) → f c ≡ r → rise f cs ≡ y
          → ((x : Raise) → rise f cs ≡ some x → length (bytes_of x.kept) + length (encode x.top) ≤ length (bytes_of cs) + 1)
          → ahead c r y ≡ some x → length (bytes_of x.kept) + length (encode x.top) ≤ length (encode c ++ bytes_of cs) + 1
      go r (some y) a b ih e = let h = ih y b in rw (← some-injective _ _ e) (simp length-append (omega arith))
      go none none a b ih e = absurd (none-ne-some x e)
      go (some d) none a b ih e = let h = r.grows c d a in rw (← some-injective _ _ e) (simp length-append (omega arith))

  pub increment_room : (cs u : List ℕ) → increment f cs ≡ some u → length (bytes_of u) ≤ length (bytes_of cs) + 1
  unfolding bytes_of
  increment_room cs u e = go (rise f cs) refl (sym (increment_rise f cs) ∙ e)
    where
      go : (x : Option Raise) → rise f cs ≡ x → glue x ≡ some u → length (bytes_of u) ≤ length (bytes_of cs) + 1
      go none h e = absurd (none-ne-some u e)
      go (some x) h e =
          let k = rise_room cs x h in
          rw (← some-injective _ _ e, bytes_append) (simp (append-nil, length-append) (omega arith))

-- what is kept is a front
pub rise_front : (f : ℕ → Option ℕ) (cs : List ℕ) (x : Raise) → rise f cs ≡ some x → (t : List ℕ) × (cs ≡ x.kept ++ t)
unfolding rise
rise_front f [] x e = absurd (none-ne-some x e)
rise_front f (c ∷ cs) x e = go (f c) (rise f cs) refl (rise_front f cs) e
  where
    go : (r : Option ℕ) (y : Option Raise) → rise f cs ≡ y → ((x : Raise) → rise f cs ≡ some x → (t : List ℕ) × (cs ≡ x.kept ++ t))
        → ahead c r y ≡ some x → (t : List ℕ) × (c ∷ cs ≡ x.kept ++ t)
    go r (some y) b ih e = let h = ih y b in (h.0, ap (λ l. c ∷ l) h.1 ∙ ap (λ z. z.kept ++ h.0) (some-injective _ _ e))
    go none none b ih e = absurd (none-ne-some x e)
    go (some d) none b ih e = (c ∷ cs, ap (λ z. z.kept ++ (c ∷ cs)) (some-injective _ _ e))

-- and the raised character is a scalar value
pub rise_scalar : (f : ℕ → Option ℕ) → Raises f → (cs : List ℕ) (x : Raise) → rise f cs ≡ some x → Scalar x.top
unfolding rise
rise_scalar f r [] x e = absurd (none-ne-some x e)
rise_scalar f r (c ∷ cs) x e = go (f c) (rise f cs) refl refl (rise_scalar f r cs) e
  where
    go : (q : Option ℕ) (y : Option Raise) → f c ≡ q → rise f cs ≡ y → ((x : Raise) → rise f cs ≡ some x → Scalar x.top)
        → ahead c q y ≡ some x → Scalar x.top
    go q (some y) a b ih e = subst (λ z. Scalar z.top) (some-injective _ _ e) (ih y b)
    go none none a b ih e = absurd (none-ne-some x e)
    go (some d) none a b ih e = subst (λ z. Scalar z.top) (some-injective _ _ e) (r.scalar c d a)
