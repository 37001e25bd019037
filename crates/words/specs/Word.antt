-- A word of 64 bits, stored high byte first: eight bytes as a number, a number as eight bytes, and whole lists of either.
-- Assumes nothing.
use Rattle.std.specs.Prelude.{List, [], ◌∷◌, ◌++◌, ℕ, zero, suc, ◌+◌, ◌*◌, ◌/◌, ◌%◌, ◌^◌, length, get_or, take, drop}
use Rattle.words.specs.declared.Range.{Range}

-- eight bytes as a number, the first the highest
abbrev pub of_bytes : ℕ → ℕ → ℕ → ℕ → ℕ → ℕ → ℕ → ℕ → ℕ
of_bytes a b c d e f g h = ((((((a * 256 + b) * 256 + c) * 256 + d) * 256 + e) * 256 + f) * 256 + g) * 256 + h

-- the word whose bytes begin at index at; past the end a byte counts as 0
unfoldable pub word_at : List ℕ → ℕ → ℕ
word_at s at =
    of_bytes (get_or s at 0) (get_or s (at + 1) 0) (get_or s (at + 2) 0) (get_or s (at + 3) 0)
    (get_or s (at + 4) 0) (get_or s (at + 5) 0) (get_or s (at + 6) 0) (get_or s (at + 7) 0)

-- the eight bytes of a word
unfoldable pub word_bytes : ℕ → List ℕ
word_bytes w =
    w / 2 ^ 56 % 256 ∷ w / 2 ^ 48 % 256 ∷ w / 2 ^ 40 % 256 ∷ w / 2 ^ 32 % 256
    ∷ w / 2 ^ 24 % 256 ∷ w / 2 ^ 16 % 256 ∷ w / 2 ^ 8 % 256 ∷ w % 256 ∷ []

-- the first n words of bytes
unfoldable pub first_words : ℕ → List ℕ → List ℕ
first_words zero bs = []
first_words (suc n) bs = word_at bs 0 ∷ first_words n (drop 8 bs)

-- the whole words of bytes
unfoldable pub words_of : List ℕ → List ℕ
words_of bs = first_words (length bs / 8) bs

-- the bytes of words
unfoldable pub bytes_of : List ℕ → List ℕ
bytes_of [] = []
bytes_of (w ∷ ws) = word_bytes w ++ bytes_of ws

-- the bytes of a pool that a range names
abbrev pub range_of : List ℕ → Range → List ℕ
range_of pool r = take r.len (drop r.at pool)
