-- The characters of a text's bytes, a total reading: by it a statement about characters is one about bytes. Assumes nothing.
use Rattle.std.specs.Prelude.{◌≡◌, refl, true, cond, List, [], ◌∷◌, ◌++◌, ℕ, zero, suc, ◌+◌, ◌*◌, ◌-◌, ◌/◌, ◌<◌, ◌≤◌, length, ltb}
use Rattle.std.proofs.Common.{sym, ◌∙◌, ap, subst, arith, lt-ltb, le-ltb}
use Rattle.std.proofs.Math.Option.{Option, some, none, some-injective, none-ne-some}
use Rattle.words.specs.Bytes.{up_to}
use Rattle.text.specs.Utf8.{Text, Utf8, encode, bytes_of, Size, size, one, two, three, four, scalar_top}
use Rattle.text.specs.Increment.{increment, Raises, increment_bounds, increment_text, increment_room}

-- after one byte more: how many are still to come, and the number so far
abbrev pub needs : ℕ → ℕ → ℕ
needs zero b = cond (ltb b 128) 0 (cond (ltb b 224) 1 (cond (ltb b 240) 2 3))
needs (suc k) b = k

abbrev pub joins : ℕ → ℕ → ℕ → ℕ
joins zero v b = cond (ltb b 128) b (cond (ltb b 224) (b - 192) (cond (ltb b 240) (b - 224) (b - 240)))
joins (suc k) v b = v * 64 + (b - 128)

-- none to come: the character is whole
abbrev pub done : ℕ → ℕ → List ℕ → List ℕ
done zero v r = v ∷ r
done (suc k) v r = r

-- the characters that end in the bytes, k bytes being still to come of one whose number so far is v
unfoldable pub chars_from : List ℕ → ℕ → ℕ → List ℕ
chars_from [] k v = []
chars_from (b ∷ bs) k v = done (needs k b) (joins k v b) (chars_from bs (needs k b) (joins k v b))

unfoldable pub chars_of : List ℕ → List ℕ
chars_of bs = chars_from bs 0 0

fresh : (bs : List ℕ) (v : ℕ) → chars_from bs 0 v ≡ chars_from bs 0 0
unfolding chars_from
fresh [] v = refl
fresh (b ∷ bs) v = refl

-- one byte, by its kind
ascii : (b : ℕ) (t : List ℕ) → b < 128 → chars_from (b ∷ t) 0 0 ≡ b ∷ chars_from t 0 0
unfolding chars_from
ascii b t h = rw (lt-ltb b 128 h) (ap (λ l. b ∷ l) (fresh t b))

lead2 : (b : ℕ) (t : List ℕ) → 128 ≤ b → b < 224 → chars_from (b ∷ t) 0 0 ≡ chars_from t 1 (b - 192)
unfolding chars_from
lead2 b t h k = rw (le-ltb b 128 h, lt-ltb b 224 k)

lead3 : (b : ℕ) (t : List ℕ) → 224 ≤ b → b < 240 → chars_from (b ∷ t) 0 0 ≡ chars_from t 2 (b - 224)
unfolding chars_from
lead3 b t h k = rw (le-ltb b 128 (omega arith), le-ltb b 224 h, lt-ltb b 240 k)

lead4 : (b : ℕ) (t : List ℕ) → 240 ≤ b → chars_from (b ∷ t) 0 0 ≡ chars_from t 3 (b - 240)
unfolding chars_from
lead4 b t h = rw (le-ltb b 128 (omega arith), le-ltb b 224 (omega arith), le-ltb b 240 h)

more : (k v w b : ℕ) (t : List ℕ) → v * 64 + (b - 128) ≡ w → chars_from (b ∷ t) (suc (suc k)) v ≡ chars_from t (suc k) w
unfolding chars_from
more k v w b t e = rw e

last : (v w b : ℕ) (t : List ℕ) → v * 64 + (b - 128) ≡ w → chars_from (b ∷ t) 1 v ≡ w ∷ chars_from t 0 0
unfolding chars_from
last v w b t e = rw e (ap (λ l. w ∷ l) (fresh t w))

first : (c : ℕ) (t : List ℕ) → c < 0x110000 → Size c → chars_from (encode c ++ t) 0 0 ≡ c ∷ chars_from t 0 0
first c t h (one a e) = rw e (ascii c t a)
first c t h (two a b e) = rw e (lead2 (192 + c / 64) _ (omega arith) (omega arith) ∙ last _ c _ t (omega arith))
first c t h (three a b e) =
    rw e (lead3 (224 + c / 4096) _ (omega arith) (omega arith) ∙ more 0 _ (c / 64) _ _ (omega arith) ∙ last (c / 64) c _ t (omega arith))
first c t h (four a e) =
    rw e
    (lead4 (240 + c / 262144) _ (omega arith) ∙ more 1 _ (c / 4096) _ _ (omega arith) ∙ more 0 (c / 4096) (c / 64) _ _ (omega arith)
    ∙ last (c / 64) c _ t (omega arith))

pub chars_bytes : (cs : List ℕ) → Text cs → chars_of (bytes_of cs) ≡ cs
unfolding chars_of bytes_of chars_from
chars_bytes [] t = refl
chars_bytes (c ∷ cs) t = first c (bytes_of cs) (scalar_top c t.0) (size c) ∙ ap (λ l. c ∷ l) (chars_bytes cs t.1)

pub bytes_chars : (bs : List ℕ) → Utf8 bs → Text (chars_of bs) × (bytes_of (chars_of bs) ≡ bs)
unfolding Utf8
bytes_chars bs u =
    let e : chars_of bs ≡ u.0 = ap chars_of (sym u.2) ∙ chars_bytes u.0 u.1 in
    (subst Text (sym e) u.1, ap bytes_of e ∙ u.2)

-- ---- the increment, of bytes

abbrev pub in_bytes : Option (List ℕ) → Option (List ℕ)
in_bytes none = none
in_bytes (some u) = some (bytes_of u)

unfoldable pub incremented : (ℕ → Option ℕ) → List ℕ → Option (List ℕ)
incremented f bs = in_bytes (increment f (chars_of bs))

pub incremented_chars : (f : ℕ → Option ℕ) (cs : List ℕ) → Text cs → incremented f (bytes_of cs) ≡ in_bytes (increment f cs)
unfolding incremented
incremented_chars f cs t = rw (chars_bytes cs t)

in_bytes_lem : (o : Option (List ℕ)) (u : List ℕ) → in_bytes o ≡ some u → (v : List ℕ) × (o ≡ some v) × (bytes_of v ≡ u)
in_bytes_lem none u e = absurd (none-ne-some u e)
in_bytes_lem (some v) u e = (v, refl, some-injective _ _ e)

module _ (f : ℕ → Option ℕ) (r : Raises f) (p u : List ℕ) (w : Utf8 p) (e : incremented f p ≡ some u) where
  parts : (v : List ℕ) × (increment f (chars_of p) ≡ some v) × (bytes_of v ≡ u)
  unfolding incremented
  parts = in_bytes_lem (increment f (chars_of p)) u e

  -- every byte string that begins with the text is at most its increment
  pub incremented_bounds : (t : List ℕ) → up_to (p ++ t) u ≡ true
  incremented_bounds t =
      let v = parts in
      rw ((bytes_chars p w).1, v.2) at (increment_bounds f r (chars_of p) v.0 t v.1)

  pub incremented_utf8 : Utf8 u
  unfolding Utf8
  incremented_utf8 = let v = parts in (v.0, increment_text f r (chars_of p) v.0 (bytes_chars p w).0 v.1, v.2)

  pub incremented_room : length u ≤ length p + 1
  incremented_room =
      let v = parts in
      rw ((bytes_chars p w).1, v.2) at (increment_room f r (chars_of p) v.0 v.1)
