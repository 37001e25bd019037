-- std's UTF-8 is ours. Assumes nothing.
use Rattle.std.proofs.Common.{◌≡◌, refl, sym, ◌∙◌, ℕ, List, [], ◌∷◌, Bool, true, false, inl, inr, arith, lt-ltb, le-ltb, le-leb}
use Rattle.std.proofs.lemmas.Bool.{and_parts}
use Rattle.std.specs.Prelude.{Result, Ok, Err, MatchResult, is_ok}
use Rattle.std.specs.Borrow.{Bor}
use Rattle.std.specs.Str.{IsUtf8}
use Rattle.std.proofs.Math.Utf8.{scalar, scalars, scalar_cases, encodes}
use Rattle.std.proofs.Math.Utf8 as theirs
use Rattle.text.specs.Utf8.{Scalar, Text, Utf8, encode, bytes_of}
use Rattle.text.specs.Machine.{is_utf8}
use Rattle.text.proofs.Valid.{utf8_iff}

pub encode_is : (c : ℕ) → theirs.encode c ≡ encode c
unfolding encode theirs.encode
encode_is c = refl

pub bytes_are : (cs : List ℕ) → encodes cs ≡ bytes_of cs
unfolding bytes_of
bytes_are [] = refl
bytes_are (c ∷ cs) = rw (encode_is c, bytes_are cs)

pub scalar_is : (c : ℕ) → Scalar c → scalar c ≡ true
scalar_is c (inl h) = rw (lt-ltb c 0xD800 h)
scalar_is c (inr h) = rw (le-ltb c 0xD800 (omega arith), le-leb 0xE000 c h.0, lt-ltb c 0x110000 h.1)

pub text_is : (cs : List ℕ) → Text cs → scalars cs ≡ true
text_is [] t = refl
text_is (c ∷ cs) t = rw (scalar_is c t.0) (text_is cs t.1)

pub is_text : (cs : List ℕ) → scalars cs ≡ true → Text cs
is_text [] e = tt
is_text (c ∷ cs) e = let p = and_parts (scalar c) (scalars cs) e in (scalar_cases c p.0, is_text cs p.1)

pub from_std : (bs : List ℕ) → IsUtf8 bs → Utf8 bs
unfolding Utf8
from_std bs u = (u.0, is_text u.0 u.1.0, sym (bytes_are u.0) ∙ u.1.1)

pub to_std : (bs : List ℕ) → Utf8 bs → IsUtf8 bs
unfolding Utf8
to_std bs u = (u.0, (text_is u.0 u.1, bytes_are u.0 ∙ u.2))

-- what std's check answers is what the machine does
pub valid_is : {E : Type 0} (Q : E → Type 0) (bs : List ℕ) (r : Result (Bor (List ℕ)) E)
    → MatchResult r (λ s. (s.now ≡ bs) × IsUtf8 bs) (λ e. ¬ (IsUtf8 bs) × Q e) → is_ok r ≡ is_utf8 bs
valid_is Q bs (Ok s) h = sym ((utf8_iff bs).1 (from_std bs h.1))
valid_is Q bs (Err e) h = go (is_utf8 bs) refl
  where
    go : (b : Bool) → is_utf8 bs ≡ b → false ≡ is_utf8 bs
    go true q = absurd (h.0 (to_std bs ((utf8_iff bs).0 q)))
    go false q = sym q
