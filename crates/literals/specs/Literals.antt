-- Literal words, the literals that they stand for, and the values of literals over a pool. Assumes nothing.
use Rattle.std.specs.Prelude.{Bool, true, false, ◌&&◌, ◌||◌, List, [], ◌∷◌, ℕ, ◌+◌, ◌^◌, ◌<◌, length, get_or, eqb, leb, ltb, ℤ}
use Rattle.words.specs.Word.{word_at, word_bytes, range_of}
use Rattle.words.specs.Layout.{field, packed}
use Rattle.words.specs.Pools.{Inside}
use Rattle.literals.specs.Signed.{signed, bits_of}
use Rattle.literals.specs.declared.Literal.{Literal}
use Rattle.literals.specs.declared.Literal.TheVariants.{Null, Int, Text, Truth}

-- ---- a literal's word: type(2) length(14) zero(24) offset(24)

abbrev pub literal_layout : List ℕ
literal_layout = 2 ∷ 14 ∷ 24 ∷ 24 ∷ []

abbrev pub type_of : ℕ → ℕ
type_of w = field literal_layout 0 w

abbrev pub length_of : ℕ → ℕ
length_of w = field literal_layout 1 w

abbrev pub zero_of : ℕ → ℕ
zero_of w = field literal_layout 2 w

abbrev pub offset_of : ℕ → ℕ
offset_of w = field literal_layout 3 w

-- types: of a literal, and of a column in the schema
abbrev pub null_type : ℕ
null_type = 0

abbrev pub integer_type : ℕ
integer_type = 1

abbrev pub text_type : ℕ
text_type = 2

abbrev pub truth_type : ℕ
truth_type = 3

-- bytes of an integer
abbrev pub integer_bytes : ℕ
integer_bytes = 8

-- no unnamed field set; of a null, none at all
abbrev pub plain : ℕ → Bool
plain w = eqb (zero_of w) 0 && (ltb 0 (type_of w) || (eqb (length_of w) 0 && eqb (offset_of w) 0))

-- its bytes lie inside the pool
abbrev pub inside : List ℕ → ℕ → Bool
inside pool w = leb (offset_of w + length_of w) (length pool)

-- null, or of the type asked, of that type's length or truth value, and inside the pool
unfoldable pub suits : List ℕ → ℕ → ℕ → Bool
suits pool type w =
    get_or
    (true
    ∷ (eqb type integer_type && (eqb (length_of w) integer_bytes && inside pool w))
    ∷ (eqb type text_type && inside pool w)
    ∷ (eqb type truth_type && (eqb (length_of w) 0 && leb (offset_of w) 1))
    ∷ [])
    (type_of w) false

-- the literal of a word, a total reading
unfoldable pub literal_of : List ℕ → ℕ → Literal
literal_of pool w =
    get_or
    (Null
    ∷ Int (signed (word_at pool (offset_of w)))
    ∷ Text (record { at = offset_of w; len = length_of w })
    ∷ Truth (eqb (offset_of w) 1)
    ∷ [])
    (type_of w) Null

-- ---- values

pub data Value : Type 0 where
  null : Value
  int : ℤ → Value
  text : List ℕ → Value
  truth : Bool → Value

-- the value of a literal, its text taken out of the pool
abbrev pub value_of : List ℕ → Literal → Value
value_of pool Null = null
value_of pool (Int z) = int z
value_of pool (Text r) = text (range_of pool r)
value_of pool (Truth b) = truth b

-- the value of a literal word
abbrev pub value_at : List ℕ → ℕ → Value
value_at pool w = value_of pool (literal_of pool w)

-- ---- values as words: a pool's bytes, and the word of a value whose bytes stand at an offset

abbrev pub value_bytes : Value → List ℕ
value_bytes null = []
value_bytes (int z) = word_bytes (bits_of z)
value_bytes (text bs) = bs
value_bytes (truth b) = []

abbrev pub bit_of : Bool → ℕ
bit_of true = 1
bit_of false = 0

abbrev pub value_word : ℕ → Value → ℕ
value_word offset null = 0
value_word offset (int z) = packed literal_layout (integer_type ∷ integer_bytes ∷ 0 ∷ offset ∷ [])
value_word offset (text bs) = packed literal_layout (text_type ∷ length bs ∷ 0 ∷ offset ∷ [])
value_word offset (truth b) = packed literal_layout (truth_type ∷ 0 ∷ 0 ∷ bit_of b ∷ [])

-- ---- literals as words

-- the word of a literal whose bytes stand at an offset
abbrev pub literal_word : ℕ → Literal → ℕ
literal_word offset Null = 0
literal_word offset (Int z) = packed literal_layout (integer_type ∷ integer_bytes ∷ 0 ∷ offset ∷ [])
literal_word offset (Text r) = packed literal_layout (text_type ∷ r.len ∷ 0 ∷ offset ∷ [])
literal_word offset (Truth b) = packed literal_layout (truth_type ∷ 0 ∷ 0 ∷ bit_of b ∷ [])

-- a literal that a word can hold
abbrev pub LiteralFits : Literal → Type 0
LiteralFits Null = Unit {0}
LiteralFits (Int z) = Unit {0}
LiteralFits (Text r) = r.len < 2 ^ 14
LiteralFits (Truth b) = Unit {0}

-- a literal whose text the pool has
abbrev pub LiteralInside : List ℕ → Literal → Type 0
LiteralInside pool Null = Unit {0}
LiteralInside pool (Int z) = Unit {0}
LiteralInside pool (Text r) = Inside pool r
LiteralInside pool (Truth b) = Unit {0}
