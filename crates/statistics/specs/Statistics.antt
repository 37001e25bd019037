-- Statistics: their words, and the list in which a listed statistic is reused and rows is listed once for all columns. Assumes nothing.
use Rattle.std.specs.Prelude.{Bool, cond, List, [], ◌∷◌, ◌++◌, ℕ, suc, ◌+◌, ◌*◌, length, get_or, eqb, ltb}
use Rattle.words.specs.Layout.{field, packed}
use Rattle.predicate.specs.declared.Column.{Column}
use Rattle.statistics.specs.declared.Statistic.{Statistic}
use Rattle.statistics.specs.declared.Statistic.TheVariants.{Least, Greatest, Blanks, Rows}

-- ---- a statistic's word: column(8) type(2)

abbrev pub statistic_layout : List ℕ
statistic_layout = 8 ∷ 2 ∷ 54 ∷ []

abbrev pub column_field : ℕ → ℕ
column_field w = field statistic_layout 0 w

abbrev pub type_field : ℕ → ℕ
type_field w = field statistic_layout 1 w

abbrev pub zero_field : ℕ → ℕ
zero_field w = field statistic_layout 2 w

-- 0 least, 1 greatest, 2 blanks, 3 rows
abbrev pub type_of : Statistic → ℕ
type_of (Least c) = 0
type_of (Greatest c) = 1
type_of (Blanks c) = 2
type_of Rows = 3

-- the rows entry has column 0
abbrev pub column_in : Statistic → ℕ
column_in (Least c) = c.0
column_in (Greatest c) = c.0
column_in (Blanks c) = c.0
column_in Rows = 0

abbrev pub statistic_word : Statistic → ℕ
statistic_word s = packed statistic_layout (column_in s ∷ type_of s ∷ 0 ∷ [])

-- the statistic of a word, a total reading
unfoldable pub statistic_of : ℕ → Statistic
statistic_of w =
    let c : Column = record { 0 = column_field w } in
    get_or (Least c ∷ Greatest c ∷ Blanks c ∷ Rows ∷ []) (type_field w) Rows

abbrev pub statistic_words : List Statistic → List ℕ
statistic_words [] = []
statistic_words (s ∷ ss) = statistic_word s ∷ statistic_words ss

-- the list that words stand for
unfoldable pub statistics_of : List ℕ → List Statistic
statistics_of [] = []
statistics_of (w ∷ ws) = statistic_of w ∷ statistics_of ws

-- ---- the list

-- column and type as one number
abbrev pub key_of : Statistic → ℕ
key_of s = column_in s * 4 + type_of s

abbrev pub same_statistic : Statistic → Statistic → Bool
same_statistic a b = eqb (key_of a) (key_of b)

-- where a statistic stands in a list; the list's length where it does not
unfoldable pub place_of : Statistic → List Statistic → ℕ
place_of s [] = 0
place_of s (x ∷ xs) = cond (same_statistic x s) 0 (suc (place_of s xs))

-- a listed statistic is reused
unfoldable pub added : List Statistic → Statistic → List Statistic
added list s = cond (ltb (place_of s list) (length list)) list (list ++ (s ∷ []))

-- one after the other
unfoldable pub added_all : List Statistic → List Statistic → List Statistic
added_all list [] = list
added_all list (s ∷ ss) = added_all (added list s) ss
