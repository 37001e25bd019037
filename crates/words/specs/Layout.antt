-- A word's fields from the top. A layout is the list of their widths in bits. Assumes nothing.
use Rattle.std.specs.Prelude.{List, [], ◌∷◌, ℕ, zero, suc, ◌+◌, ◌*◌, ◌/◌, ◌%◌, ◌^◌, ◌<◌}

-- the bits of a layout
abbrev pub bits : List ℕ → ℕ
bits [] = 0
bits (n ∷ ns) = n + bits ns

-- field i of a word: what stands above the fields below it, cut to its width
abbrev pub field : List ℕ → ℕ → ℕ → ℕ
field [] i w = 0
field (n ∷ ns) zero w = w / 2 ^ bits ns % 2 ^ n
field (n ∷ ns) (suc i) w = field ns i w

-- every field of a word
abbrev pub fields : List ℕ → ℕ → List ℕ
fields [] w = []
fields (n ∷ ns) w = w / 2 ^ bits ns % 2 ^ n ∷ fields ns w

-- the word that has these fields
abbrev pub packed : List ℕ → List ℕ → ℕ
packed [] vs = 0
packed (n ∷ ns) [] = 0
packed (n ∷ ns) (v ∷ vs) = v * 2 ^ bits ns + packed ns vs

-- each field within its width, and one for each
abbrev pub Within : List ℕ → List ℕ → Type 0
Within [] [] = Unit {0}
Within [] (v ∷ vs) = ⊥
Within (n ∷ ns) [] = ⊥
Within (n ∷ ns) (v ∷ vs) = (v < 2 ^ n) × Within ns vs
