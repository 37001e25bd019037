-- Document 01's cases of LIKE and of the increment, with some more and some of UTF-8, as one statement that is proved by computation.
-- Assumes nothing.
use Rattle.std.specs.Prelude.{◌≡◌, Bool, true, false, List, [], ◌∷◌, ◌++◌, ℕ}
use Rattle.std.proofs.Math.Option.{Option, some, none}
use Prim.Native.Char.{code}
use Prim.Native.String as Quoted
use Prim.Native.String.{String}
use Rattle.text.specs.Utf8.{Each, encode, bytes_of}
use Rattle.text.specs.Increment.{increment, raised, allowed}
use Rattle.text.specs.Chars.{chars_of, chars_from, in_bytes, incremented}
use Rattle.text.specs.Machine.{lead_of, step_of, runs, is_utf8}
use Rattle.text.specs.Pattern.{prefix_of, rest_of}
use Rattle.text.specs.Match.{like, like_text}
use Rattle.text.specs.Upper.{upper_of}

-- the code points of a quoted text
abbrev pub chars : String → List ℕ
chars Quoted.[] = []
chars (Quoted.◌∷◌ c s) = code c ∷ chars s

-- a code point by its number, between two quoted texts
abbrev pub between : String → ℕ → String → List ℕ
between s c t = chars s ++ c ∷ chars t

-- in code points: a pattern, what is split off it, its upper bound, rows that match and rows that do not
pub record LikeCase : Type 0 where
  pub pattern : List ℕ
  pub prefix : List ℕ
  pub rest : List ℕ
  pub upper : Option (List ℕ)
  pub matching : List (List ℕ)
  pub others : List (List ℕ)

-- a pattern, or bytes and whether they are UTF-8
pub data Case : Type 0 where
  Like : LikeCase → Case
  Bytes : List ℕ → Bool → Case

abbrev pub Holds : Case → Type 0
Holds (Bytes bs b) = is_utf8 bs ≡ b
Holds (Like c) =
    (prefix_of false (bytes_of c.pattern) ≡ bytes_of c.prefix) × (rest_of false (bytes_of c.pattern) ≡ bytes_of c.rest)
    × (upper_of (bytes_of c.pattern) ≡ in_bytes c.upper) × Each (λ s. like_text (bytes_of c.pattern) (bytes_of s) ≡ true) c.matching
    × Each (λ s. like_text (bytes_of c.pattern) (bytes_of s) ≡ false) c.others

abbrev pub All : List Case → Type 0
All cs = Each Holds cs

-- the last six: U+D7FF U+E000, a surrogate, U+FFFF, an overlong form, one above 10FFFF, a character cut short
abbrev pub text_cases : List Case
text_cases =
    Like (record { pattern = chars "ab%"; prefix = chars "ab"; rest = chars "%"; upper = some (chars "ac"); matching = chars "ab" ∷ chars "abz" ∷ []; others = chars "a" ∷ chars "ac" ∷ [] })
    ∷ Like (record { pattern = chars ""; prefix = chars ""; rest = chars ""; upper = some (chars ""); matching = chars "" ∷ []; others = chars "a" ∷ [] })
    ∷ Like (record { pattern = chars "%"; prefix = chars ""; rest = chars "%"; upper = none; matching = chars "" ∷ chars "a" ∷ []; others = [] })
    ∷ Like (record { pattern = chars "a\\"; prefix = chars "a\\"; rest = chars ""; upper = some (chars "a\\"); matching = chars "a\\" ∷ []; others = chars "a" ∷ [] })
    ∷ Like (record { pattern = chars "\\%\\"; prefix = chars "%\\"; rest = chars ""; upper = some (chars "%\\"); matching = chars "%\\" ∷ []; others = chars "a\\" ∷ [] })
    ∷ Like (record { pattern = chars "a\\_\\\\_"; prefix = chars "a_\\"; rest = chars "_"; upper = some (chars "a_]"); matching = chars "a_\\é" ∷ []; others = chars "ab\\é" ∷ chars "a_\\" ∷ [] })
    ∷ Like (record { pattern = chars "a%_\\%b"; prefix = chars "a"; rest = chars "%_\\%b"; upper = some (chars "b"); matching = chars "aXYé%b" ∷ []; others = chars "a%b" ∷ chars "aXYéb" ∷ [] })
    ∷ Like (record { pattern = between "" 0x7F "_"; prefix = between "" 0x7F ""; rest = chars "_"; upper = some (between "" 0x80 ""); matching = (0x7F ∷ 0x10FFFF ∷ []) ∷ []; others = between "" 0x7F "" ∷ [] })
    ∷ Like (record { pattern = between "a" 0xD7FF "%"; prefix = between "a" 0xD7FF ""; rest = chars "%"; upper = some (chars "b"); matching = between "a" 0xD7FF "z" ∷ []; others = between "a" 0xE000 "" ∷ [] })
    ∷ Like (record { pattern = between "" 0xFDCF "%"; prefix = between "" 0xFDCF ""; rest = chars "%"; upper = none; matching = []; others = [] })
    ∷ Like (record { pattern = between "a" 0xFFFD "%"; prefix = between "a" 0xFFFD ""; rest = chars "%"; upper = some (chars "b"); matching = []; others = [] })
    ∷ Like (record { pattern = between "" 0xFFFF "%"; prefix = between "" 0xFFFF ""; rest = chars "%"; upper = some (between "" 0x10000 ""); matching = []; others = [] })
    ∷ Like (record { pattern = between "" 0x1FFFD "%"; prefix = between "" 0x1FFFD ""; rest = chars "%"; upper = some (between "" 0x1FFFE ""); matching = []; others = [] })
    ∷ Like (record { pattern = between "" 0x10FFFF "%"; prefix = between "" 0x10FFFF ""; rest = chars "%"; upper = none; matching = []; others = [] })
    ∷ Bytes (0xED ∷ 0x9F ∷ 0xBF ∷ 0xEE ∷ 0x80 ∷ 0x80 ∷ []) true
    ∷ Bytes (0xED ∷ 0xA0 ∷ 0x80 ∷ []) false
    ∷ Bytes (0xEF ∷ 0xBF ∷ 0xBF ∷ []) true
    ∷ Bytes (0xC1 ∷ 0xBF ∷ []) false
    ∷ Bytes (0xF4 ∷ 0x90 ∷ 0x80 ∷ 0x80 ∷ []) false
    ∷ Bytes (0xC3 ∷ []) false
    ∷ []

pub text_cases_lem : All text_cases
unfolding prefix_of rest_of incremented increment raised allowed chars_of chars_from bytes_of encode like_text like is_utf8 runs step_of lead_of
text_cases_lem = (search, (search, (search, (search, (search, (search, (search, (search, (search, (search, (search, (search, (search, (search, (search, (search, (search, (search, (search, (search, tt))))))))))))))))))))
