-- A pattern's first plain byte taken off, as the three walks over a pattern do it. Assumes nothing.
use Rattle.std.specs.Prelude.{◌≡◌, false, List, [], ◌∷◌, ℕ, ◌<◌, length, Option, MatchOption}
use Rattle.std.specs.Borrow.{Bor}
use Rattle.text.specs.Pattern.{prefix_of, rest_of}

-- nothing is left of the unescaped prefix; or its first byte, and what is behind it has the prefix without that byte, and the same rest
abbrev pub SplitPlain : List ℕ → Option (Bor ℕ × Bor (List ℕ)) → Type 0
SplitPlain p r =
    MatchOption r ((prefix_of false p ≡ []) × (rest_of false p ≡ p))
    (λ x. (prefix_of false p ≡ x.0.now ∷ prefix_of false x.1.now) × (rest_of false p ≡ rest_of false x.1.now) × (length x.1.now < length p))
