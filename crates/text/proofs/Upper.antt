-- A row that LIKE matches lies between the pattern's prefix and its upper bound, which is UTF-8 and has at most one byte more than the
-- pattern. Assumes nothing.
use Rattle.std.specs.Prelude.{◌≡◌, refl, true, false, List, [], ◌∷◌, ℕ, ◌+◌, ◌≤◌, length}
use Rattle.std.proofs.Common.{subst, arith}
use Rattle.std.proofs.Math.Option.{some, some-injective}
use Rattle.words.specs.Bytes.{up_to, up_to_refl, front_up_to}
use Rattle.text.specs.Utf8.{Utf8}
use Rattle.text.specs.Increment.{Raises}
use Rattle.text.proofs.Increment.{raises_one}
use Rattle.text.specs.Chars.{incremented_bounds, incremented_utf8, incremented_room}
use Rattle.text.specs.Pattern.{prefix_of, rest_of}
use Rattle.text.specs.Match.{like_text}
use Rattle.text.proofs.Match.{prefix_utf8, text_begins, text_whole}
use Rattle.text.specs.Upper.{increment_of, pick, prefix_length, rule, upper_of}

pub rule_raises : Raises rule
rule_raises = raises_one

-- ---- laws of the upper bound

module _ (p u : List ℕ) (up : Utf8 p) where
  -- what holds of a prefix with no wildcard behind it, and of an increment, holds of the upper bound
  by_rest : (P : List ℕ → Type 0) → (rest_of false p ≡ [] → P (prefix_of false p)) → (increment_of (prefix_of false p) ≡ some u → P u)
      → upper_of p ≡ some u → P u
  by_rest P a b e = go (rest_of false p) refl e
    where
      go : (t : List ℕ) → rest_of false p ≡ t → pick t (prefix_of false p) (increment_of (prefix_of false p)) ≡ some u → P u
      go [] h e = subst P (some-injective _ _ e) (a h)
      go (w ∷ t) h e = b e

  -- it has at most one byte more than the pattern
  pub upper_length : upper_of p ≡ some u → length u ≤ length p + 1
  upper_length =
      let h = prefix_length p in
      by_rest (λ x. length x ≤ length p + 1) (λ _. omega arith) λ e.
      let k = incremented_room rule rule_raises (prefix_of false p) u (prefix_utf8 p up) e in omega arith

  pub upper_utf8 : upper_of p ≡ some u → Utf8 u
  upper_utf8 = let q = prefix_utf8 p up in by_rest Utf8 (λ _. q) (incremented_utf8 rule rule_raises (prefix_of false p) u q)

  -- a row that matches lies between the prefix and the upper bound
  pub upper_bounds : (s : List ℕ) → Utf8 s → like_text p s ≡ true → upper_of p ≡ some u → (up_to (prefix_of false p) s ≡ true) × (up_to s u ≡ true)
  upper_bounds s us m e =
      let b = text_begins p s up us m in (
        rw b.1 (front_up_to (prefix_of false p) b.0),
        by_rest (λ x. up_to s x ≡ true) (λ h. rw (← text_whole p s up us m h) (up_to_refl s))
            (λ i. rw b.1 (incremented_bounds rule rule_raises (prefix_of false p) u (prefix_utf8 p up) i b.0)) e,
      )
