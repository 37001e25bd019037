-- The last character of a text, for any rule: raised, or one character back. Assumes nothing.
use Rattle.std.proofs.Common.{◌≡◌, refl, sym, ap, ◌∙◌, subst, ℕ, List, [], ◌∷◌, ◌++◌, length, take, arith}
use Rattle.std.proofs.Math.Option.{Option, some, none}
use Rattle.std.proofs.lemmas.List.{append-nil}
use Rattle.std.specs.Prelude.{Some, None}
use Rattle.std.specs.Char.{IsScalar, encode_utf8}
use Rattle.std.specs.Str.{IsUtf8}
use lib.Seq.{take-append_seam}
use Rattle.std.proofs.lemmas.Str.{IsUtf8-take, IsUtf8-encode, IsCharBoundary-at_seam}
use Rattle.std.proofs.Math.Utf8.{scalar_cases}
use Rattle.text.specs.Utf8.{Scalar, Text, encode, bytes_of, bytes_append}
use Rattle.text.specs.Increment.{rise, rise_here, rise_back}
use Rattle.text.specs.Chars.{chars_of, chars_from, bytes_chars, chars_bytes}
use Rattle.text.proofs.Std.{encode_is, from_std}
use Rattle.increment.specs.Outcome.{next_of, place_of}

-- ---- answers

to_some : (o : Option ℕ) (n : ℕ) → next_of o ≡ Some n → o ≡ some n
to_some none n e = let z : ◌≡◌ {A = ℕ} 0 1 = cc in absurd (omega arith)
to_some (some d) n e = cc

nothing_none : (o : Option ℕ) → next_of o ≡ None → o ≡ none
nothing_none none e = refl
nothing_none (some d) e = let z : ◌≡◌ {A = ℕ} 0 1 = cc in absurd (omega arith)

-- ---- a text and its last character

-- the bytes of characters and one more
pub last_bytes : (k : List ℕ) (c : ℕ) → bytes_of (k ++ c ∷ []) ≡ bytes_of k ++ encode c
unfolding bytes_of
last_bytes k c = bytes_append k (c ∷ []) ∙ ap (λ l. bytes_of k ++ l) (append-nil (encode c))

last_text : (k : List ℕ) (c : ℕ) → Text k → Scalar c → Text (k ++ c ∷ [])
last_text [] c t h = (h, tt)
last_text (x ∷ k) c t h = (t.0, last_text k c t.1 h)

-- bs is xs and behind it the character c
module _ (bs xs : List ℕ) (c : ℕ) (u : IsUtf8 bs) (s : IsScalar c) (e : bs ≡ xs ++ encode_utf8 c) where
  pub before : IsUtf8 xs
  before =
      let h = IsUtf8-take bs (length xs) u (IsCharBoundary-at_seam bs xs (encode_utf8 c) e (IsUtf8-encode c s)) in
      subst IsUtf8 (ap (take (length xs)) e ∙ take-append_seam xs (encode_utf8 c)) h

  front : Text (chars_of xs) × (bytes_of (chars_of xs) ≡ xs)
  front = bytes_chars xs (from_std xs before)

  split : chars_of bs ≡ chars_of xs ++ c ∷ []
  split =
      let b : bytes_of (chars_of xs ++ c ∷ []) ≡ bs = last_bytes (chars_of xs) c ∙ rw (front.1, ← encode_is c) (sym e) in
      sym (ap chars_of b) ∙ chars_bytes (chars_of xs ++ c ∷ []) (last_text (chars_of xs) c front.0 (scalar_cases c s))

  -- the text s is raised as bs is
  module _ (f : ℕ → Option ℕ) (all : List ℕ) (same : rise f (chars_of all) ≡ rise f (chars_of bs)) where
    -- the last character can be raised
    pub found : (d : ℕ) → Some d ≡ next_of (f c) → Some (length xs, d) ≡ place_of (rise f (chars_of all))
    found d q =
        let r : rise f (chars_of all) ≡ some (record { kept = chars_of xs; top = d }) =
        same ∙ ap (rise f) split ∙ rise_here f (chars_of xs) c d (to_some (f c) d (sym q)) in
        rw (r, front.1)

    -- it cannot: one character back
    pub onward : None ≡ next_of (f c) → rise f (chars_of all) ≡ rise f (chars_of xs)
    onward q = same ∙ ap (rise f) split ∙ rise_back f (chars_of xs) c (nothing_none (f c) (sym q))

-- no character is left
pub finished : (f : ℕ → Option ℕ) (all bs : List ℕ) → rise f (chars_of all) ≡ rise f (chars_of bs) → length bs ≡ 0 → None ≡ place_of (rise f (chars_of all))
unfolding rise chars_of chars_from
finished f all [] same h = sym (ap place_of same)
finished f all (b ∷ bs) same h = absurd (omega arith)
