-- UTF-8: the bytes of a code point, text as the bytes of scalar values. Assumes nothing.
use Rattle.std.specs.Prelude.{◌≡◌, refl, Bool, true, false, cond, ◌⊎◌, ℕ, ◌+◌, ◌/◌, ◌%◌, ◌<◌, ◌≤◌, ltb}
use Rattle.std.proofs.Common.{sym, inl, inr, ⊎_elim, eq-or-lt_of_le, arith, lt-ltb, le-ltb, ltb-true, ltb-false}
use mathlib.Core.List.{List, [], ◌∷◌, ◌++◌, append_assoc, cons-ne-nil}
use Rattle.words.specs.Bytes.{below, below_first, below_next}

-- P of every element
abbrev pub Each : {A : Type 0} → (A → Type 0) → List A → Type 0
Each P [] = Unit {0}
Each P (x ∷ xs) = P x × Each P xs

-- no surrogate, none above 10FFFF
abbrev pub Scalar : ℕ → Type 0
Scalar c = (c < 0xD800) ⊎ ((0xE000 ≤ c) × (c < 0x110000))

abbrev pub enc1 : ℕ → List ℕ
enc1 c = c ∷ []

abbrev pub enc2 : ℕ → List ℕ
enc2 c = (192 + c / 64) ∷ (128 + c % 64) ∷ []

abbrev pub enc3 : ℕ → List ℕ
enc3 c = (224 + c / 4096) ∷ (128 + c / 64 % 64) ∷ (128 + c % 64) ∷ []

abbrev pub enc4 : ℕ → List ℕ
enc4 c = (240 + c / 262144) ∷ (128 + c / 4096 % 64) ∷ (128 + c / 64 % 64) ∷ (128 + c % 64) ∷ []

-- the bytes of a code point
unfoldable pub encode : ℕ → List ℕ
encode c = cond (ltb c 0x80) (enc1 c) (cond (ltb c 0x800) (enc2 c) (cond (ltb c 0x10000) (enc3 c) (enc4 c)))

-- the bytes of a run of code points
unfoldable pub bytes_of : List ℕ → List ℕ
bytes_of [] = []
bytes_of (c ∷ cs) = encode c ++ bytes_of cs

-- every code point is a scalar value
abbrev pub Text : List ℕ → Type 0
Text cs = Each Scalar cs

-- a byte string is UTF-8
unfoldable pub Utf8 : List ℕ → Type 0
Utf8 bs = (cs : List ℕ) × Text cs × (bytes_of cs ≡ bs)

pub encode_1 : (c : ℕ) → c < 0x80 → encode c ≡ enc1 c
unfolding encode
encode_1 c a = rw (lt-ltb c 0x80 a)

pub encode_2 : (c : ℕ) → 0x80 ≤ c → c < 0x800 → encode c ≡ enc2 c
unfolding encode
encode_2 c a b = rw (le-ltb c 0x80 a, lt-ltb c 0x800 b)

pub encode_3 : (c : ℕ) → 0x800 ≤ c → c < 0x10000 → encode c ≡ enc3 c
unfolding encode
encode_3 c a b = rw (le-ltb c 0x80 (omega arith), le-ltb c 0x800 a, lt-ltb c 0x10000 b)

pub encode_4 : (c : ℕ) → 0x10000 ≤ c → encode c ≡ enc4 c
unfolding encode
encode_4 c a = rw (le-ltb c 0x80 (omega arith), le-ltb c 0x800 (omega arith), le-ltb c 0x10000 a)

-- the four sizes
pub data Size (c : ℕ) : Type 0 where
  one : c < 0x80 → encode c ≡ enc1 c → Size c
  two : 0x80 ≤ c → c < 0x800 → encode c ≡ enc2 c → Size c
  three : 0x800 ≤ c → c < 0x10000 → encode c ≡ enc3 c → Size c
  four : 0x10000 ≤ c → encode c ≡ enc4 c → Size c

pub size : (c : ℕ) → Size c
size c = go (ltb c 0x80) (ltb c 0x800) (ltb c 0x10000) refl refl refl
  where
    go : (p q r : Bool) → ltb c 0x80 ≡ p → ltb c 0x800 ≡ q → ltb c 0x10000 ≡ r → Size c
    go true q r e f g = let a = ltb-true c 0x80 e in one a (encode_1 c a)
    go false true r e f g = let a = ltb-false c 0x80 e in let b = ltb-true c 0x800 f in two a b (encode_2 c a b)
    go false false true e f g = let a = ltb-false c 0x800 f in let b = ltb-true c 0x10000 g in three a b (encode_3 c a b)
    go false false false e f g = let a = ltb-false c 0x10000 g in four a (encode_4 c a)

pub bytes_append : (a b : List ℕ) → bytes_of (a ++ b) ≡ bytes_of a ++ bytes_of b
unfolding bytes_of
bytes_append [] b = refl
bytes_append (c ∷ a) b = rw (bytes_append a b) (sym (append_assoc (encode c) (bytes_of a) (bytes_of b)))

pub scalar_top : (c : ℕ) → Scalar c → c < 0x110000
scalar_top c (inl h) = omega arith
scalar_top c (inr h) = omega arith

-- ---- bytes are in the order of their code points

-- the first digit decides, else what follows
step : (m n k : ℕ) (xs ys : List ℕ) → m ≤ n → (m ≡ n → below xs ys ≡ true) → below ((k + m) ∷ xs) ((k + n) ∷ ys) ≡ true
step m n k xs ys h f =
    ⊎_elim (λ e. below_next (k + m) (k + n) xs ys (omega arith) (f e)) (λ p. below_first (k + m) (k + n) xs ys (omega arith)) (eq-or-lt_of_le h)

low : (m n : ℕ) (xs ys : List ℕ) → m ≤ n → m / 64 ≡ n / 64 → (m ≡ n → below xs ys ≡ true)
    → below ((128 + m % 64) ∷ xs) ((128 + n % 64) ∷ ys) ≡ true
low m n xs ys h e f = step (m % 64) (n % 64) 128 xs ys (omega arith) λ q. f (omega arith)

high3 : (c d : ℕ) → c / 4096 ≡ d / 4096 → c / 64 / 64 ≡ d / 64 / 64
high3 c d e = omega arith

high4 : (c d : ℕ) → c / 262144 ≡ d / 262144 → c / 4096 / 64 ≡ d / 4096 / 64
high4 c d e = omega arith

less : (c d : ℕ) (x y : List ℕ) → c < d → d < 0x110000 → Size c → Size d → below (encode c ++ x) (encode d ++ y) ≡ true
less c d x y h k (one a e) (one b f) = rw (e, f) (below_first c d x y h)
less c d x y h k (one a e) (two b b' f) = rw (e, f) (below_first _ _ _ _ (omega arith))
less c d x y h k (one a e) (three b b' f) = rw (e, f) (below_first _ _ _ _ (omega arith))
less c d x y h k (one a e) (four b f) = rw (e, f) (below_first _ _ _ _ (omega arith))
less c d x y h k (two a a' e) (one b f) = absurd (omega arith)
less c d x y h k (two a a' e) (two b b' f) = rw (e, f) (step (c / 64) (d / 64) 192 _ _ (omega arith) λ p. low c d _ _ (omega arith) p λ q. absurd (omega arith))
less c d x y h k (two a a' e) (three b b' f) = rw (e, f) (below_first _ _ _ _ (omega arith))
less c d x y h k (two a a' e) (four b f) = rw (e, f) (below_first _ _ _ _ (omega arith))
less c d x y h k (three a a' e) (one b f) = absurd (omega arith)
less c d x y h k (three a a' e) (two b b' f) = absurd (omega arith)
less c d x y h k (three a a' e) (three b b' f) =
    rw (e, f)
    (step (c / 4096) (d / 4096) 224 _ _ (omega arith) λ p.
    low (c / 64) (d / 64) _ _ (omega arith) (high3 c d p) λ q. low c d _ _ (omega arith) q λ r. absurd (omega arith))
less c d x y h k (three a a' e) (four b f) = rw (e, f) (below_first _ _ _ _ (omega arith))
less c d x y h k (four a e) (one b f) = absurd (omega arith)
less c d x y h k (four a e) (two b b' f) = absurd (omega arith)
less c d x y h k (four a e) (three b b' f) = absurd (omega arith)
less c d x y h k (four a e) (four b f) =
    rw (e, f)
    (step (c / 262144) (d / 262144) 240 _ _ (omega arith) λ p.
    low (c / 4096) (d / 4096) _ _ (omega arith) (high4 c d p) λ q.
    low (c / 64) (d / 64) _ _ (omega arith) (high3 c d q) λ r. low c d _ _ (omega arith) r λ s. absurd (omega arith))

-- whatever follows
pub encode_below : (c d : ℕ) (x y : List ℕ) → c < d → d < 0x110000 → below (encode c ++ x) (encode d ++ y) ≡ true
encode_below c d x y h k = less c d x y h k (size c) (size d)

-- ---- the shape of a character's bytes

-- continuation bytes
abbrev pub Conts : List ℕ → Type 0
Conts bs = Each (λ b. (128 ≤ b) × (b < 192)) bs

-- one byte, the code point itself; or a leading byte of 192 and more, then continuation bytes
pub data Shape (c : ℕ) : Type 0 where
  short : c < 128 → encode c ≡ c ∷ [] → Shape c
  long : 128 ≤ c → (b : ℕ) (bs : List ℕ) → encode c ≡ b ∷ bs → 192 ≤ b → Conts bs → Shape c

pub shape : (c : ℕ) → Shape c
shape c = go (size c)
  where
    go : Size c → Shape c
    go (one a e) = short a e
    go (two a b e) = long a _ _ e (omega arith) ((omega arith, omega arith), tt)
    go (three a b e) = long (omega arith) _ _ e (omega arith) ((omega arith, omega arith), ((omega arith, omega arith), tt))
    go (four a e) = long (omega arith) _ _ e (omega arith) ((omega arith, omega arith), ((omega arith, omega arith), ((omega arith, omega arith), tt)))

-- a text without bytes has no characters
pub no_bytes : (p : List ℕ) → bytes_of p ≡ [] → p ≡ []
unfolding bytes_of
no_bytes [] e = refl
no_bytes (c ∷ p) e = go (shape c)
  where
    go : Shape c → c ∷ p ≡ []
    go (short a q) = absurd (cons-ne-nil c (bytes_of p) (rw q at e))
    go (long a b bs q l t) = absurd (cons-ne-nil b (bs ++ bytes_of p) (rw q at e))
