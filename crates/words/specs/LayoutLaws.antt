-- One law over every layout: fields go into a word and come out again, and a word is made of its fields. Assumes nothing.
use Rattle.std.specs.Prelude.{◌≡◌, refl, List, [], ◌∷◌, ℕ, zero, suc, ◌+◌, ◌*◌, ◌/◌, ◌%◌, ◌^◌, ◌≤◌, ◌<◌, length, get_or}
use Rattle.std.proofs.Common.{sym, ap, ◌∙◌, zero-add, suc-add, add-zero, suc-mul, one-mul, mul_assoc, mul-le-mul_right, mod-lt, mod-eq_of_lt, div-lt_iff_lt-mul, div-add-mod', arith}
use Rattle.std.proofs.Math.Nat.{pow-zero, pow-succ', one-le-pow, div-eq_of_lt, mul-add-div_right, mul-add-mod_self_right}
use Rattle.words.specs.Layout.{bits, field, fields, packed, Within}

-- ---- powers of two

pub pow_add : (m n : ℕ) → 2 ^ (m + n) ≡ 2 ^ m * 2 ^ n
pow_add zero n = rw (zero-add, pow-zero) (sym (one-mul (2 ^ n)))
pow_add (suc m) n = rw (suc-add, pow-succ' 2 (m + n), pow-succ' 2 m, pow_add m n) (sym (mul_assoc 2 (2 ^ m) (2 ^ n)))

pub pow_pos : (n : ℕ) → 0 < 2 ^ n
pow_pos n = one-le-pow n 2 (omega arith)

-- a multiple of 2 ^ (m + n) is one of 2 ^ n
lift : (x m n : ℕ) → x * 2 ^ (m + n) ≡ x * 2 ^ m * 2 ^ n
lift x m n = rw (pow_add m n) (sym (mul_assoc x (2 ^ m) (2 ^ n)))

-- a digit and what is below it
digits : (v p a b : ℕ) → v < a → p < b → v * b + p < a * b
digits v p a b h k =
    let m : suc v * b ≤ a * b = mul-le-mul_right b h in
    let e : suc v * b ≡ v * b + b = suc-mul v b in
    omega arith

-- ---- what stands above a layout is not seen

pub fields_above : (ns : List ℕ) (x y : ℕ) → fields ns (x * 2 ^ bits ns + y) ≡ fields ns y
fields_above [] x y = refl
fields_above (n ∷ ns) x y =
    rw (lift x n (bits ns), mul-add-div_right (pow_pos (bits ns)) (x * 2 ^ n) y, mul-add-mod_self_right x (2 ^ n) (y / 2 ^ bits ns))
    (ap (λ (l : List ℕ). y / 2 ^ bits ns % 2 ^ n ∷ l) (fields_above ns (x * 2 ^ n) y))

fields_low : (ns : List ℕ) (w : ℕ) → fields ns w ≡ fields ns (w % 2 ^ bits ns)
fields_low ns w =
    ap (fields ns) (sym (div-add-mod' w (2 ^ bits ns))) ∙ fields_above ns (w / 2 ^ bits ns) (w % 2 ^ bits ns)

-- ---- in, and out again

pub packed_within : (ns vs : List ℕ) → Within ns vs → packed ns vs < 2 ^ bits ns
packed_within [] [] h = omega arith
packed_within [] (v ∷ vs) h = absurd h
packed_within (n ∷ ns) [] h = absurd h
packed_within (n ∷ ns) (v ∷ vs) h =
    rw (pow_add n (bits ns)) (digits v (packed ns vs) (2 ^ n) (2 ^ bits ns) h.0 (packed_within ns vs h.1))

pub fields_packed : (ns vs : List ℕ) → Within ns vs → fields ns (packed ns vs) ≡ vs
fields_packed [] [] h = refl
fields_packed [] (v ∷ vs) h = absurd h
fields_packed (n ∷ ns) [] h = absurd h
fields_packed (n ∷ ns) (v ∷ vs) h =
    rw (mul-add-div_right (pow_pos (bits ns)) v (packed ns vs), div-eq_of_lt (packed_within ns vs h.1), add-zero v, mod-eq_of_lt h.0, fields_above ns v (packed ns vs), fields_packed ns vs h.1)

pub fields_within : (ns : List ℕ) (w : ℕ) → Within ns (fields ns w)
fields_within [] w = tt
fields_within (n ∷ ns) w = (mod-lt (w / 2 ^ bits ns) (pow_pos n), fields_within ns w)

pub packed_fields : (ns : List ℕ) (w : ℕ) → w < 2 ^ bits ns → packed ns (fields ns w) ≡ w
packed_fields [] w h = omega arith
packed_fields (n ∷ ns) w h =
    let b : ℕ = 2 ^ bits ns in
    let k : w / b < 2 ^ n = (div-lt_iff_lt-mul (pow_pos (bits ns))).1 (rw pow_add at h) in
    rw (mod-eq_of_lt k, fields_low ns w, packed_fields ns (w % b) (mod-lt w (pow_pos (bits ns)))) (div-add-mod' w b)

-- ---- one field

pub field_fields : (ns : List ℕ) (i w : ℕ) → field ns i w ≡ get_or (fields ns w) i 0
field_fields [] i w = refl
field_fields (n ∷ ns) zero w = refl
field_fields (n ∷ ns) (suc i) w = field_fields ns i w

pub field_packed : (ns vs : List ℕ) (i : ℕ) → Within ns vs → field ns i (packed ns vs) ≡ get_or vs i 0
field_packed ns vs i h = field_fields ns i (packed ns vs) ∙ ap (λ (l : List ℕ). get_or l i 0) (fields_packed ns vs h)

pub field_below : (ns : List ℕ) (i w : ℕ) → i < length ns → field ns i w < 2 ^ get_or ns i 0
field_below [] i w h = absurd (omega arith)
field_below (n ∷ ns) zero w h = mod-lt (w / 2 ^ bits ns) (pow_pos n)
field_below (n ∷ ns) (suc i) w h = field_below ns i w (omega arith)

pub length_fields : (ns : List ℕ) (w : ℕ) → length (fields ns w) ≡ length ns
length_fields [] w = refl
length_fields (n ∷ ns) w = ap suc (length_fields ns w)
