-- Which texts match a LIKE pattern, by characters; a match begins with the pattern's prefix in characters, and the prefix is the same in
-- bytes (of a match in bytes: proofs/Match.antt). Assumes nothing.
use Rattle.std.specs.Prelude.{◌≡◌, refl, Bool, true, false, cond, ◌&&◌, ◌||◌, ℕ, ◌≤◌, eqb}
use Rattle.std.proofs.Common.{sym, ◌∙◌, ap, inl, arith, eqb-true, ne_eqb}
use Rattle.std.proofs.lemmas.Bool.{false≢true}
use mathlib.Core.List.{List, [], ◌∷◌, ◌++◌, cons-ne-nil}
use Rattle.text.specs.Utf8.{Text, encode, bytes_of, Conts, Shape, shape, short, long}
use Rattle.text.specs.Chars.{chars_of}
use Rattle.text.specs.Pattern.{percent, underscore, backslash, ends_at, opens_at, kept, prefix_of, rest_of}

abbrev pub empty : List ℕ → Bool
empty [] = true
empty (x ∷ s) = false

-- the character c, then f
abbrev pub then : ℕ → (List ℕ → Bool) → List ℕ → Bool
then c f [] = false
then c f (x ∷ s) = eqb x c && f s

-- any one character, then f
abbrev pub single : (List ℕ → Bool) → List ℕ → Bool
single f [] = false
single f (x ∷ s) = f s

-- any run of characters, then f
abbrev pub run : (List ℕ → Bool) → List ℕ → Bool
run f [] = f []
run f (x ∷ s) = f (x ∷ s) || run f s

-- one character of a pattern, f being what follows it, plain or escaped
abbrev pub piece : (Bool → List ℕ → Bool) → Bool → ℕ → List ℕ → Bool
piece f true c s = then c (f false) s
piece f false c s = cond (eqb c percent) (run (f false) s) (cond (eqb c underscore) (single (f false) s) (cond (eqb c backslash) (f true s) (then c (f false) s)))

-- the characters s match the pattern; the flag says that a backslash stood just before
unfoldable pub like : List ℕ → Bool → List ℕ → Bool
like [] false s = empty s
like [] true s = then backslash empty s
like (c ∷ p) e s = piece (like p) e c s

-- the row s matches the pattern p, both in bytes
unfoldable pub like_text : List ℕ → List ℕ → Bool
like_text p s = like (chars_of p) false (chars_of s)

-- ---- a match begins with the prefix

is_empty : (s : List ℕ) → empty s ≡ true → s ≡ []
is_empty [] e = refl
is_empty (x ∷ s) e = absurd (false≢true e)

-- s is the prefix p₀ and then something; nothing where no wildcard is left
abbrev pub Matches : List ℕ → List ℕ → List ℕ → Type 0
Matches p₀ rest s = (t : List ℕ) × (s ≡ p₀ ++ t) × (rest ≡ [] → t ≡ [])

then_is : (c : ℕ) (p₀ rest : List ℕ) (f : List ℕ → Bool) (s : List ℕ) → ((s : List ℕ) → f s ≡ true → Matches p₀ rest s)
    → then c f s ≡ true → Matches (c ∷ p₀) rest s
then_is c p₀ rest f [] h e = absurd (false≢true e)
then_is c p₀ rest f (x ∷ s) h e = go (eqb x c) refl e
  where
    go : (b : Bool) → eqb x c ≡ b → (b && f s) ≡ true → Matches (c ∷ p₀) rest (x ∷ s)
    go true q e = let m = h s e in (m.0, rw (eqb-true x c q) (ap (λ l. c ∷ l) m.1), m.2)
    go false q e = absurd (false≢true e)

pub matches : (p : List ℕ) (e : Bool) (s : List ℕ) → like p e s ≡ true → Matches (prefix_of e p) (rest_of e p) s
unfolding like prefix_of rest_of
matches [] false s h = ([], is_empty s h, λ _. refl)
matches [] true s h = then_is backslash [] [] empty s (λ s e. ([], is_empty s e, λ _. refl)) h
matches (c ∷ p) true s h = then_is c (prefix_of false p) (rest_of false p) (like p false) s (matches p false) h
matches (c ∷ p) false s h = go (eqb c percent) (eqb c underscore) (eqb c backslash) (matches p) h
  where
    go : (x y z : Bool) → ((e : Bool) (s : List ℕ) → like p e s ≡ true → Matches (prefix_of e p) (rest_of e p) s)
        → cond x (run (like p false) s) (cond y (single (like p false) s) (cond z (like p true s) (then c (like p false) s))) ≡ true
        → Matches (cond (x || y) [] (kept z c (prefix_of z p))) (cond (x || y) (c ∷ p) (rest_of z p)) s
    go true y z ih h = (s, refl, λ e. absurd (cons-ne-nil c p e))
    go false true z ih h = (s, refl, λ e. absurd (cons-ne-nil c p e))
    go false false true ih h = ih true s h
    go false false false ih h = then_is c (prefix_of false p) (rest_of false p) (like p false) s (ih false) h

-- ---- bytes: a character of several bytes holds none of the three marks

plain : (e : Bool) (b : ℕ) → 128 ≤ b → (ends_at e b ≡ false) × (opens_at e b ≡ false)
plain true b h = (refl, refl)
plain false b h = (rw (ne_eqb b percent (omega arith), ne_eqb b underscore (omega arith)), ne_eqb b backslash (omega arith))

prefix_high : (e : Bool) (b : ℕ) (p : List ℕ) → 128 ≤ b → prefix_of e (b ∷ p) ≡ b ∷ prefix_of false p
unfolding prefix_of
prefix_high e b p h = rw ((plain e b h).0, (plain e b h).1)

rest_high : (e : Bool) (b : ℕ) (p : List ℕ) → 128 ≤ b → rest_of e (b ∷ p) ≡ rest_of false p
unfolding rest_of
rest_high e b p h = rw ((plain e b h).0, (plain e b h).1)

prefix_conts : (bs p : List ℕ) → Conts bs → prefix_of false (bs ++ p) ≡ bs ++ prefix_of false p
prefix_conts [] p h = refl
prefix_conts (b ∷ bs) p h = prefix_high false b (bs ++ p) h.0.0 ∙ ap (λ l. b ∷ l) (prefix_conts bs p h.1)

rest_conts : (bs p : List ℕ) → Conts bs → rest_of false (bs ++ p) ≡ rest_of false p
rest_conts [] p h = refl
rest_conts (b ∷ bs) p h = rest_high false b (bs ++ p) h.0.0 ∙ rest_conts bs p h.1

one_byte : bytes_of (backslash ∷ []) ≡ backslash ∷ []
unfolding bytes_of encode
one_byte = refl

-- the prefix of the pattern's bytes is the bytes of its prefix
pub prefix_bytes : (e : Bool) (p : List ℕ) → prefix_of e (bytes_of p) ≡ bytes_of (prefix_of e p)
unfolding prefix_of bytes_of
prefix_bytes true [] = sym one_byte
prefix_bytes false [] = refl
prefix_bytes e (c ∷ p) = go (shape c) (λ e. prefix_bytes e p)
  where
    pick : (x y : Bool) → encode c ≡ c ∷ [] → prefix_of y (bytes_of p) ≡ bytes_of (prefix_of y p)
        → cond x [] (kept y c (prefix_of y (bytes_of p))) ≡ bytes_of (cond x [] (kept y c (prefix_of y p)))
    pick true y q h = refl
    pick false true q h = h
    pick false false q h = rw (q, h)

    go : Shape c → ((e : Bool) → prefix_of e (bytes_of p) ≡ bytes_of (prefix_of e p)) → prefix_of e (encode c ++ bytes_of p) ≡ bytes_of (prefix_of e (c ∷ p))
    go (short a q) h = rw q (pick (ends_at e c) (opens_at e c) q (h (opens_at e c)))
    go (long a b bs q l t) h =
        rw (q, (plain e c a).0, (plain e c a).1)
        (prefix_high e b (bs ++ bytes_of p) (omega arith) ∙ ap (λ l. b ∷ l) (prefix_conts bs (bytes_of p) t ∙ ap (λ l. bs ++ l) (h false)) ∙ rw q)

-- and the rest of the bytes is the bytes of the rest
pub rest_bytes : (e : Bool) (p : List ℕ) → rest_of e (bytes_of p) ≡ bytes_of (rest_of e p)
unfolding rest_of bytes_of
rest_bytes e [] = refl
rest_bytes e (c ∷ p) = go (shape c) (λ e. rest_bytes e p)
  where
    pick : (x y : Bool) → encode c ≡ c ∷ [] → rest_of y (bytes_of p) ≡ bytes_of (rest_of y p)
        → cond x (c ∷ bytes_of p) (rest_of y (bytes_of p)) ≡ bytes_of (cond x (c ∷ p) (rest_of y p))
    pick true y q h = rw q
    pick false y q h = h

    go : Shape c → ((e : Bool) → rest_of e (bytes_of p) ≡ bytes_of (rest_of e p)) → rest_of e (encode c ++ bytes_of p) ≡ bytes_of (rest_of e (c ∷ p))
    go (short a q) h = rw q (pick (ends_at e c) (opens_at e c) q (h (opens_at e c)))
    go (long a b bs q l t) h =
        rw (q, (plain e c a).0, (plain e c a).1) (rest_high e b (bs ++ bytes_of p) (omega arith) ∙ rest_conts bs (bytes_of p) t ∙ h false)

pub bytes_none : (p : List ℕ) → p ≡ [] → bytes_of p ≡ []
unfolding bytes_of
bytes_none p e = rw e

-- ---- UTF-8 patterns and rows

pub text_prefix : (e : Bool) (p : List ℕ) → Text p → Text (prefix_of e p)
unfolding prefix_of
text_prefix true [] t = (inl (omega arith), tt)
text_prefix false [] t = tt
text_prefix e (c ∷ p) t = go (ends_at e c) (opens_at e c) (λ e. text_prefix e p t.1)
  where
    go : (x y : Bool) → ((e : Bool) → Text (prefix_of e p)) → Text (cond x [] (kept y c (prefix_of y p)))
    go true y h = tt
    go false true h = h true
    go false false h = (t.0, h false)
