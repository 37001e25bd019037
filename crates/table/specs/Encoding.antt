-- A table as words and a literal pool: statistics by their places in a list, literals in table order, each with its own bytes.
-- Assumes nothing.
use Rattle.std.specs.Prelude.{◌≡◌, refl, List, [], ◌∷◌, ◌++◌, ℕ, ◌+◌, length, get_or, Option, Some, None}
use Rattle.words.specs.Layout.{packed}
use Rattle.operators.specs.Operators.{code_of}
use Rattle.kleene.specs.declared.Joining.{Joining}
use Rattle.kleene.specs.declared.Joining.TheVariants.{And, Or}
use Rattle.literals.specs.Literals.{value_bytes, value_word, bit_of}
use Rattle.statistics.specs.declared.Statistic.{Statistic}
use Rattle.statistics.specs.Statistics.{place_of}
use Rattle.table.specs.declared.Kind.{Kind}
use Rattle.table.specs.declared.Kind.TheVariants.{Always, And as AndKind, Or as OrKind, Against, Positive, Differ, Holds, Negation}
use Rattle.table.specs.Tables.{Table, always, both, against, positive, differ, holds, negation}

-- kind(4) operator(4) first(8) second(8) literal-first(1) zero(39)
abbrev pub table_layout : List ℕ
table_layout = 4 ∷ 4 ∷ 8 ∷ 8 ∷ 1 ∷ 39 ∷ []

abbrev pub always_kind : ℕ
always_kind = 0

abbrev pub joining_kind : Joining → ℕ
joining_kind And = 1
joining_kind Or = 2

abbrev pub against_kind : ℕ
against_kind = 3

abbrev pub positive_kind : ℕ
positive_kind = 4

abbrev pub differ_kind : ℕ
differ_kind = 5

abbrev pub holds_kind : ℕ
holds_kind = 6

abbrev pub negation_kind : ℕ
negation_kind = 7

-- document 01's number of each kind
abbrev pub number_of_kind : Kind → ℕ
number_of_kind Always = always_kind
number_of_kind AndKind = joining_kind And
number_of_kind OrKind = joining_kind Or
number_of_kind Against = against_kind
number_of_kind Positive = positive_kind
number_of_kind Differ = differ_kind
number_of_kind Holds = holds_kind
number_of_kind Negation = negation_kind

abbrev pub kinds : List (Option Kind)
kinds =
    Some Always ∷ Some AndKind ∷ Some OrKind ∷ Some Against ∷ Some Positive ∷ Some Differ ∷ Some Holds ∷ Some Negation ∷ []

-- the kind of a number, if it is one's
abbrev pub kind_named : ℕ → Option Kind
kind_named n = get_or kinds n None

pub kind_number : (k : Kind) → kind_named (number_of_kind k) ≡ Some k
kind_number Always = refl
kind_number AndKind = refl
kind_number OrKind = refl
kind_number Against = refl
kind_number Positive = refl
kind_number Differ = refl
kind_number Holds = refl
kind_number Negation = refl

abbrev pub table_word : ℕ → ℕ → ℕ → ℕ → ℕ → ℕ
table_word kind operator first second literal_first = packed table_layout (kind ∷ operator ∷ first ∷ second ∷ literal_first ∷ 0 ∷ [])

-- the literal pool: each literal's bytes, unshared
unfoldable pub pool_of : Table → List ℕ
pool_of (always b) = []
pool_of (both j l r) = pool_of l ++ pool_of r
pool_of (against o s b v) = value_bytes v
pool_of (positive s) = []
pool_of (differ s t) = []
pool_of (holds s) = []
pool_of (negation t) = pool_of t

module _ (list : List Statistic) where
  -- the words of a table whose first literal's bytes stand at an offset: each offset is the bytes before it
  unfoldable pub table_words : ℕ → Table → List ℕ
  table_words offset (always b) = table_word always_kind (bit_of b) 0 0 0 ∷ []
  table_words offset (both j l r) = table_word (joining_kind j) 0 0 0 0 ∷ (table_words offset l ++ table_words (offset + length (pool_of l)) r)
  table_words offset (against o s b v) = table_word against_kind (code_of o) (place_of s list) 0 (bit_of b) ∷ value_word offset v ∷ []
  table_words offset (positive s) = table_word positive_kind 0 (place_of s list) 0 0 ∷ []
  table_words offset (differ s t) = table_word differ_kind 0 (place_of s list) (place_of t list) 0 ∷ []
  table_words offset (holds s) = table_word holds_kind 0 (place_of s list) 0 0 ∷ []
  table_words offset (negation t) = table_word negation_kind 0 0 0 0 ∷ table_words offset t
