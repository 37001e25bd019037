-- Literal words: what a word of each type stands for, and values that go into a word and a pool and come out again. Assumes nothing.
use Rattle.std.specs.Prelude.{◌≡◌, refl, Bool, true, false, List, [], ◌∷◌, ◌++◌, ℕ, ◌^◌, ◌<◌, length, take, drop, eqb}
use Rattle.std.proofs.Math.Path.{ap}
use Rattle.std.proofs.Common.{◌∙◌, append_assoc, arith, length-drop, length-take-le, lit<}
use Rattle.std.proofs.Math.Seq.{drop-append_seam, take-append_seam}
use Rattle.words.specs.Word.{word_at, word_bytes}
use Rattle.words.specs.WordLaws.{length_word, word_put}
use Rattle.words.specs.Layout.{packed, Within}
use Rattle.words.specs.LayoutLaws.{packed_within, field_packed}
use Rattle.literals.specs.Signed.{signed, bits_of, Fits64, signed_bits, bits_fit}
use Rattle.literals.specs.Literals.{literal_layout, type_of, length_of, zero_of, offset_of, null_type, integer_type, text_type, truth_type, literal_of, Value, null, int, text, truth, value_of, value_at, value_bytes, value_word, bit_of, literal_word, LiteralInside}
use Rattle.literals.specs.declared.Literal.{Literal}
use Rattle.literals.specs.declared.Literal.TheVariants.{Null, Int, Text, Truth}

-- ---- the literal of a word, by its type

module _ (pool : List ℕ) (w : ℕ) where
  pub literal_null_lem : type_of w ≡ null_type → literal_of pool w ≡ Null
  unfolding literal_of
  literal_null_lem h = rw h

  pub literal_int : type_of w ≡ integer_type → literal_of pool w ≡ Int (signed (word_at pool (offset_of w)))
  unfolding literal_of
  literal_int h = rw h

  pub literal_text : type_of w ≡ text_type → literal_of pool w ≡ Text (record { at = offset_of w; len = length_of w })
  unfolding literal_of
  literal_text h = rw h

  pub literal_truth : type_of w ≡ truth_type → literal_of pool w ≡ Truth (eqb (offset_of w) 1)
  unfolding literal_of
  literal_truth h = rw h

-- ---- a value's word

-- a value that a word can hold
abbrev pub Plain : Value → Type 0
Plain null = Unit {0}
Plain (int z) = Fits64 z
Plain (text bs) = length bs < 2 ^ 14
Plain (truth b) = Unit {0}

-- the type of a value
abbrev pub value_type : Value → ℕ
value_type null = null_type
value_type (int z) = integer_type
value_type (text bs) = text_type
value_type (truth b) = truth_type

-- what a value's word has at its offset, its bytes standing at o
abbrev pub value_offset : ℕ → Value → ℕ
value_offset o null = 0
value_offset o (int z) = o
value_offset o (text bs) = o
value_offset o (truth b) = bit_of b

parts : ℕ → Value → List ℕ
parts o v = value_type v ∷ length (value_bytes v) ∷ 0 ∷ value_offset o v ∷ []

word_parts : (o : ℕ) (v : Value) → value_word o v ≡ packed literal_layout (parts o v)
unfolding parts
word_parts o null = refl
word_parts o (int z) = rw length_word
word_parts o (text bs) = refl
word_parts o (truth b) = refl

parts_within : (o : ℕ) (v : Value) → Plain v → o < 2 ^ 24 → Within literal_layout (parts o v)
unfolding parts
parts_within o null h k = (lit< tt, (lit< tt, (lit< tt, (lit< tt, tt))))
parts_within o (int z) h k = (lit< tt, (rw length_word (lit< tt), (lit< tt, (k, tt))))
parts_within o (text bs) h k = (lit< tt, (h, (lit< tt, (k, tt))))
parts_within o (truth true) h k = (lit< tt, (lit< tt, (lit< tt, (lit< tt, tt))))
parts_within o (truth false) h k = (lit< tt, (lit< tt, (lit< tt, (lit< tt, tt))))

module _ (o : ℕ) (v : Value) (h : Plain v) (k : o < 2 ^ 24) where
  pub value_word_below : value_word o v < 2 ^ 64
  value_word_below = rw (word_parts o v) (packed_within literal_layout (parts o v) (parts_within o v h k))

  pub type_value : type_of (value_word o v) ≡ value_type v
  unfolding parts
  type_value = ap type_of (word_parts o v) ∙ field_packed literal_layout (parts o v) 0 (parts_within o v h k)

  pub length_value : length_of (value_word o v) ≡ length (value_bytes v)
  unfolding parts
  length_value = ap length_of (word_parts o v) ∙ field_packed literal_layout (parts o v) 1 (parts_within o v h k)

  pub zero_value : zero_of (value_word o v) ≡ 0
  unfolding parts
  zero_value = ap zero_of (word_parts o v) ∙ field_packed literal_layout (parts o v) 2 (parts_within o v h k)

  pub offset_value : offset_of (value_word o v) ≡ value_offset o v
  unfolding parts
  offset_value = ap offset_of (word_parts o v) ∙ field_packed literal_layout (parts o v) 3 (parts_within o v h k)

-- ---- a value in a word and a pool, and out again

pub bit_back : (b : Bool) → eqb (bit_of b) 1 ≡ b
bit_back true = refl
bit_back false = refl

pub bit_below : (b : Bool) → bit_of b < 2
bit_below true = lit< tt
bit_below false = lit< tt

range_back : (p bs q : List ℕ) → take (length bs) (drop (length p) (p ++ bs ++ q)) ≡ bs
range_back p bs q = rw (append_assoc p bs q, drop-append_seam p (bs ++ q)) (take-append_seam bs q)

pub value_at_lem : (p : List ℕ) (v : Value) (q : List ℕ) → Plain v → length p < 2 ^ 24 → value_at (p ++ value_bytes v ++ q) (value_word (length p) v) ≡ v
value_at_lem p null q h k = ap (value_of (p ++ [] ++ q)) (literal_null_lem (p ++ [] ++ q) 0 refl)
value_at_lem p (int z) q h k =
    let pool : List ℕ = p ++ word_bytes (bits_of z) ++ q in
    let w : ℕ = value_word (length p) (int z) in
    ap (value_of pool) (literal_int pool w (type_value (length p) (int z) h k))
    ∙ ap (λ (i : ℕ). int (signed (word_at pool i))) (offset_value (length p) (int z) h k)
    ∙ ap (λ (n : ℕ). int (signed n)) (word_put p (bits_of z) q (bits_fit z h))
    ∙ ap int (signed_bits z h)
value_at_lem p (text bs) q h k =
    let pool : List ℕ = p ++ bs ++ q in
    let w : ℕ = value_word (length p) (text bs) in
    ap (value_of pool) (literal_text pool w (type_value (length p) (text bs) h k))
    ∙ ap (λ (i : ℕ). text (take (length_of w) (drop i pool))) (offset_value (length p) (text bs) h k)
    ∙ ap (λ (n : ℕ). text (take n (drop (length p) pool))) (length_value (length p) (text bs) h k)
    ∙ ap text (range_back p bs q)
value_at_lem p (truth b) q h k =
    let pool : List ℕ = p ++ [] ++ q in
    let w : ℕ = value_word (length p) (truth b) in
    ap (value_of pool) (literal_truth pool w (type_value (length p) (truth b) h k))
    ∙ ap (λ (i : ℕ). truth (eqb i 1)) (offset_value (length p) (truth b) h k)
    ∙ ap truth (bit_back b)

-- ---- a literal's word is that of its value

pub literal_word_value : (pool : List ℕ) (o : ℕ) (l : Literal) → LiteralInside pool l → literal_word o l ≡ value_word o (value_of pool l)
literal_word_value pool o Null h = refl
literal_word_value pool o (Int z) h = refl
literal_word_value pool o (Text r) h =
    let e : length (take r.len (drop r.at pool)) ≡ r.len = length-take-le r.len (drop r.at pool) (rw length-drop (omega arith)) in
    rw e
literal_word_value pool o (Truth b) h = refl
