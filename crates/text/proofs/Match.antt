-- A row that matches a LIKE pattern begins with the pattern's prefix in bytes; the prefix of UTF-8 is UTF-8. Assumes nothing.
use Rattle.std.specs.Prelude.{◌≡◌, true, false, ℕ}
use Rattle.std.proofs.Common.{sym, ◌∙◌, ap}
use mathlib.Core.List.{List, [], append-nil}
use Rattle.text.specs.Utf8.{Utf8, bytes_of, bytes_append, no_bytes}
use Rattle.text.specs.Chars.{chars_of, bytes_chars}
use Rattle.text.specs.Pattern.{prefix_of, rest_of}
use Rattle.text.specs.Match.{Matches, bytes_none, like, like_text, matches, prefix_bytes, rest_bytes, text_prefix}

pub like_begins : (p s : List ℕ) → like p false s ≡ true → Matches (prefix_of false (bytes_of p)) (rest_of false (bytes_of p)) (bytes_of s)
like_begins p s h =
    let m = matches p false s h in (
      bytes_of m.0,
      rw (prefix_bytes false p) (ap bytes_of m.1 ∙ bytes_append (prefix_of false p) m.0),
      λ e. bytes_none _ (m.2 (no_bytes _ (sym (rest_bytes false p) ∙ e))),
    )

-- the prefix of UTF-8 is UTF-8
pub prefix_utf8 : (p : List ℕ) → Utf8 p → Utf8 (prefix_of false p)
unfolding Utf8
prefix_utf8 p u = (prefix_of false u.0, text_prefix false u.0 u.1, sym (prefix_bytes false u.0) ∙ ap (prefix_of false) u.2)

module _ (p s : List ℕ) (up : Utf8 p) (us : Utf8 s) (m : like_text p s ≡ true) where
  pub text_begins : Matches (prefix_of false p) (rest_of false p) s
  unfolding like_text
  text_begins = rw ((bytes_chars p up).1, (bytes_chars s us).1) at (like_begins (chars_of p) (chars_of s) m)

  -- no wildcard: the row is the prefix
  pub text_whole : rest_of false p ≡ [] → s ≡ prefix_of false p
  text_whole e = let b = text_begins in b.1 ∙ rw (b.2 e, append-nil)
