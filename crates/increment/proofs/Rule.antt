-- The rule for one character, as the code tests it; no other file here knows the rule. Assumes nothing.
use Rattle.std.proofs.Common.{◌≡◌, refl, ℕ, suc, ◌+◌, ◌≤◌, ◌<◌, ◌⊎◌, inl, inr, Bool, true, false, ◌&&◌, leb, add-one, le-leb, arith}
use Rattle.std.proofs.lemmas.Bool.{lt-leb}
use Rattle.std.specs.Prelude.{Option, Some, None, SomeIff}
use Rattle.std.specs.Char.{IsScalar}
use Rattle.text.specs.Increment.{within, allowed, allowed_scalar, raised}
use Rattle.text.specs.Upper.{rule}
use Rattle.text.proofs.Std.{scalar_is}
use Rattle.increment.specs.Outcome.{next_of}

inside : (a b c : ℕ) → a ≤ c → c ≤ b → within a b c ≡ true
inside a b c h k = rw (le-leb a c h, le-leb c b k)

apart : (a b c : ℕ) → (c < a) ⊎ (b < c) → within a b c ≡ false
apart a b c (inl h) = rw (lt-leb a c h)
apart a b c (inr h) = go (leb a c) (lt-leb c b h)
  where
    go : (x : Bool) → leb c b ≡ false → (x && leb c b) ≡ false
    go true e = e
    go false e = refl

pub in_surrogates : (c : ℕ) → 0xD800 ≤ c → c ≤ 0xDFFF → false ≡ allowed c
unfolding allowed
in_surrogates c h k = rw (inside 0xD800 0xDFFF c h k)

pub in_second : (c : ℕ) → 0xFDD0 ≤ c → c ≤ 0xFDEF → false ≡ allowed c
unfolding allowed
in_second c h k = rw (apart 0xD800 0xDFFF c (inr (omega arith)), inside 0xFDD0 0xFDEF c h k)

pub in_third : (c : ℕ) → 0xFFFE ≤ c → c ≤ 0xFFFF → false ≡ allowed c
unfolding allowed
in_third c h k = rw (apart 0xD800 0xDFFF c (inr (omega arith)), apart 0xFDD0 0xFDEF c (inr (omega arith)), inside 0xFFFE 0xFFFF c h k)

pub in_none : (c : ℕ) → (c < 0xD800) ⊎ (0xDFFF < c) → (c < 0xFDD0) ⊎ (0xFDEF < c) → (c < 0xFFFE) ⊎ (0xFFFF < c) → leb c 0x10FFFF ≡ allowed c
unfolding allowed
in_none c h k l = rw (apart 0xD800 0xDFFF c h, apart 0xFDD0 0xFDEF c k, apart 0xFFFE 0xFFFF c l)

-- c in each range, and in none
pub ruleset gaps = (in_surrogates, in_second, in_third, in_none)

pub next_to : (c : ℕ) (r : Option ℕ) → allowed (c + 1) ≡ true → SomeIff r (IsScalar (c + 1)) (c + 1) → r ≡ next_of (rule c)
unfolding raised
next_to c None e h = absurd (h (scalar_is (c + 1) (allowed_scalar (c + 1) e)))
next_to c (Some d) e h =
    let k : allowed (suc c) ≡ true = rw add-one at e in
    let q : d ≡ suc c = rw add-one at h.1 in
    rw (k, q)

pub next_none : (c : ℕ) → allowed (c + 1) ≡ false → None ≡ next_of (rule c)
unfolding raised
next_none c e =
    let h : allowed (suc c) ≡ false = rw add-one at e in
    rw h
