-- The whole of rewriting, from the call's bytes to its outcome: a refusal, or the four outputs; and the answer word. Assumes nothing.
use Rattle.std.specs.Prelude.{List, [], ◌∷◌, ℕ, zero, suc, ◌/◌, length}
use Rattle.limits.specs.Limits.{max_depth}
use Rattle.words.specs.Word.{words_of, bytes_of}
use Rattle.words.specs.Layout.{packed}
use Rattle.predicate.specs.Predicates.{Predicate, predicate_at}
use Rattle.predicate.specs.Calls.{rewrite_fault}
use Rattle.predicate.specs.declared.Rooms.{Rooms}
use Rattle.statistics.specs.Statistics.{statistic_words}
use Rattle.table.specs.Rewriting.{rewritten, statistics}
use Rattle.table.specs.Encoding.{table_words, pool_of}
use Rattle.guarantees.specs.Guarantees.{guarantees, guarantee_words}

-- ---- the outcome

pub data Outcome : Type 0 where
  refuses : ℕ → Outcome
  -- table, pool, statistics and guarantees, in bytes
  writes : List ℕ → List ℕ → List ℕ → List ℕ → Outcome

-- the predicate of the call's words
abbrev pub predicate_of : List ℕ → List ℕ → Predicate
predicate_of predicate pool = (predicate_at pool (words_of predicate) max_depth 0).predicate

abbrev pub outputs : ℕ → List ℕ → Predicate → Outcome
outputs limit schema p =
    let t = rewritten limit schema p in
    let list = statistics limit schema p in
    writes (bytes_of (table_words list 0 t)) (pool_of t) (bytes_of (statistic_words list)) (bytes_of (guarantee_words (guarantees 0 p)))

abbrev pub unless_fault : ℕ → Outcome → Outcome
unless_fault zero o = o
unless_fault (suc n) o = refuses (suc n)

unfoldable pub rewriting : List ℕ → List ℕ → List ℕ → ℕ → Rooms → Outcome
rewriting schema predicate pool limit rooms =
    unless_fault (rewrite_fault schema predicate pool limit rooms) (outputs limit schema (predicate_of predicate pool))

-- ---- what the call answers and leaves

-- refusal(8) table words(16) pool bytes(16) statistics(8) guarantees(8) zero(8)
abbrev pub answer_layout : List ℕ
answer_layout = 8 ∷ 16 ∷ 16 ∷ 8 ∷ 8 ∷ 8 ∷ []

-- on refusal all counts are 0
abbrev pub answer_word : Outcome → ℕ
answer_word (refuses n) = packed answer_layout (n ∷ 0 ∷ 0 ∷ 0 ∷ 0 ∷ 0 ∷ [])
answer_word (writes table pool stats guars) =
    packed answer_layout (0 ∷ length table / 8 ∷ length pool ∷ length stats / 8 ∷ length guars / 8 ∷ 0 ∷ [])

abbrev pub table_out : Outcome → List ℕ
table_out (refuses n) = []
table_out (writes table pool stats guars) = table

abbrev pub pool_out : Outcome → List ℕ
pool_out (refuses n) = []
pool_out (writes table pool stats guars) = pool

abbrev pub statistics_out : Outcome → List ℕ
statistics_out (refuses n) = []
statistics_out (writes table pool stats guars) = stats

abbrev pub guarantees_out : Outcome → List ℕ
guarantees_out (refuses n) = []
guarantees_out (writes table pool stats guars) = guars
