-- A pattern by its first byte. Assumes nothing.
use Rattle.std.proofs.Common.{◌≡◌, refl, ℕ, ◌≢◌, ◌<◌, false, List, [], ◌∷◌, ◌⊎◌, inl, inr, length, arith, ne_eqb}
use Rattle.std.specs.Prelude.{Option, Some, None, MatchOption}
use Rattle.std.specs.Borrow.{Bor}
use Rattle.std.specs.List.{IsFirstAndRest}
use Rattle.std.specs.Option.{option_or}
use Rattle.text.specs.Pattern.{prefix_of, rest_of}
use Rattle.text.specs.Plain.{SplitPlain}

pub split_end : (p : List ℕ) → length p ≡ 0 → SplitPlain p None
unfolding prefix_of rest_of
split_end [] h = (refl, refl)
split_end (b ∷ t) h = absurd (omega arith)

pub split_wildcard : (p t : List ℕ) (b : ℕ) → p ≡ b ∷ t → (b ≡ 37) ⊎ (b ≡ 95) → SplitPlain p None
unfolding prefix_of rest_of
split_wildcard p t b e (inl h) = rw (e, h) (refl, refl)
split_wildcard p t b e (inr h) = rw (e, h) (refl, refl)

pub split_byte : (p : List ℕ) (b : Bor ℕ) (t : Bor (List ℕ)) → p ≡ b.now ∷ t.now → b.now ≢ 37 → b.now ≢ 95 → b.now ≢ 92 → SplitPlain p (Some (b, t))
unfolding prefix_of rest_of
split_byte p b t e h k l = rw (e, ne_eqb b.now 37 h, ne_eqb b.now 95 k, ne_eqb b.now 92 l) (refl, refl, omega arith)

-- behind a backslash the next byte is plain, and a last backslash is itself
pub split_backslash : (p : List ℕ) (b : Bor ℕ) (t : Bor (List ℕ)) (r : Option (Bor ℕ × Bor (List ℕ))) → p ≡ b.now ∷ t.now → b.now ≡ 92
    → MatchOption r (length t.now ≡ 0) (λ x. IsFirstAndRest t.now x.0.now x.1.now) → SplitPlain p (option_or r (Some (b, t)))
unfolding prefix_of rest_of
split_backslash p b t None e h k = rw e (go b.now t.now h k)
  where
    go : (x : ℕ) (s : List ℕ) → x ≡ 92 → length s ≡ 0 → (prefix_of false (x ∷ s) ≡ x ∷ prefix_of false s) × (rest_of false (x ∷ s) ≡ rest_of false s) × (length s < length (x ∷ s))
    go x [] q k = rw q (refl, refl, omega arith)
    go x (y ∷ s) q k = absurd (omega arith)
split_backslash p b t (Some x) e h k = rw (e, h, k.0) (refl, refl, omega arith)
