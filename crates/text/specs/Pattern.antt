-- A LIKE pattern, of bytes or of characters, split at its first wildcard (split_constant_prefix of the source).
-- The flag of each definition says that a backslash just before makes the next element plain. Assumes nothing.
use Rattle.std.specs.Prelude.{List, [], ◌∷◌, Bool, true, false, cond, ◌||◌, ℕ, eqb}

abbrev pub percent : ℕ
percent = 37

abbrev pub underscore : ℕ
underscore = 95

abbrev pub backslash : ℕ
backslash = 92

-- a wildcard, not escaped
abbrev pub ends_at : Bool → ℕ → Bool
ends_at true c = false
ends_at false c = eqb c percent || eqb c underscore

-- a backslash, not escaped
abbrev pub opens_at : Bool → ℕ → Bool
opens_at true c = false
opens_at false c = eqb c backslash

-- an opening backslash is left out
abbrev pub kept : Bool → ℕ → List ℕ → List ℕ
kept opens c r = cond opens r (c ∷ r)

-- a last backslash is itself
abbrev pub last : Bool → List ℕ
last true = backslash ∷ []
last false = []

-- the unescaped run before the first wildcard
unfoldable pub prefix_of : Bool → List ℕ → List ℕ
prefix_of e [] = last e
prefix_of e (c ∷ p) = cond (ends_at e c) [] (kept (opens_at e c) c (prefix_of (opens_at e c) p))

-- the pattern from its first wildcard on
unfoldable pub rest_of : Bool → List ℕ → List ℕ
rest_of e [] = []
rest_of e (c ∷ p) = cond (ends_at e c) (c ∷ p) (rest_of (opens_at e c) p)
