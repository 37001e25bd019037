-- Document 01's cases, from packed bytes to packed bytes, as one statement over one list. Assumes nothing.
use Rattle.std.specs.Prelude.{◌≡◌, refl, List, [], ◌∷◌, ℕ, ◌+◌, ◌*◌, ◌-◌, ◌^◌}
use Rattle.limits.specs.Limits.{table_room, table_pool_room, statistics_room, guarantees_room}
use Rattle.words.specs.Word.{word_at, word_bytes, first_words, words_of, bytes_of}
use Rattle.literals.specs.Signed.{signed, negated}
use Rattle.literals.specs.Literals.{suits, literal_of}
use Rattle.words.specs.Bytes.{below, up_to}
use Rattle.text.specs.Machine.{is_utf8, runs, step_of, lead_of}
use Rattle.text.specs.Utf8 as Utf8
use Rattle.text.specs.Increment.{increment, raised, allowed}
use Rattle.text.specs.Chars.{chars_of, chars_from, incremented}
use Rattle.text.specs.Pattern.{prefix_of, rest_of}
use Rattle.orders.specs.Order.{order_by}
use Rattle.predicate.specs.Nodes.{node_of}
use Rattle.predicate.specs.Predicates.{values_at, predicate_at}
use Rattle.predicate.specs.Checking.{types_fine, formed, check_literal, check_literals, node_fault, check_from, predicate_fault}
use Rattle.predicate.specs.Calls.{rewrite_fault}
use Rattle.predicate.specs.declared.Rooms.{Rooms}
use Rattle.statistics.specs.Statistics.{statistic_of, statistics_of, place_of, added, added_all}
use Rattle.table.specs.Comparisons.{minuses, turned}
use Rattle.table.specs.Rewriting.{members_table, members_lists, rewritten, lists}
use Rattle.table.specs.Encoding.{pool_of, table_words}
use Rattle.table.specs.Worth.{worth}
use Rattle.guarantees.specs.Guarantees.{guarantees}
use Rattle.pruning.specs.TableReading.{table_node_of, table_at}
use Rattle.pruning.specs.TableChecking.{statistic_fine, statistics_fine, guarantees_fine, table_formed, check_table_from, table_fine, checked_table}
use Rattle.pruning.specs.Cells.{row_fine, rows_fine, cell_of, up_to_two}
use Rattle.pruning.specs.Evaluating.{answers_drop}
use Rattle.spill.specs.Rewrite.{writes, rewriting, answer_word}
use Rattle.spill.specs.Prune.{flags, prune_fault, flag_in, flags_from, pruning}
use Rattle.demands.specs.Calls.{Asked, outcome_of, Blocks, call_of}

-- ---- one case: what rewriting is given, and what it or pruning by its outputs then gives

pub data Case : Type 0 where
  -- table, pool, statistics and guarantees, all but the pool as words, and the answer word
  rewrites : Asked → List ℕ → List ℕ → List ℕ → List ℕ → ℕ → Case
  -- the flag of the one container
  prunes : Asked → Blocks → ℕ → Case

abbrev pub Holds : Case → Type 0
Holds (rewrites a table pool stats guars answer) =
    (outcome_of a ≡ writes (bytes_of table) pool (bytes_of stats) (bytes_of guars)) × (answer_word (outcome_of a) ≡ answer)
Holds (prunes a b flag) = pruning (call_of a.schema (outcome_of a) b) ≡ flags (flag ∷ [])

abbrev pub All : List Case → Type 0
All [] = Unit {0}
All (c ∷ cs) = Holds c × All cs

-- ---- how the cases are written

abbrev pub exact_rooms : Rooms
exact_rooms = record { table = table_room; pool = table_pool_room; statistics = statistics_room; guarantees = guarantees_room }

-- a schema, predicate words and a pool, at the crate's list limit
abbrev pub asked : List ℕ → List ℕ → List ℕ → Asked
asked schema ws pool = record { schema = schema; predicate = bytes_of ws; pool = pool; limit = 20; rooms = exact_rooms }

-- grid words, in the order of the statistics list, and the cell pool; one container, no answers
abbrev pub container : List ℕ → List ℕ → Blocks
container ws cells = record { containers = 1; grid = bytes_of ws; cells = cells; answers = []; room = 1 }

-- minus n in 64 bits
abbrev pub minus : ℕ → ℕ
minus n = 2 ^ 64 - n

-- one integer column; a comparison word with an integer behind it
abbrev pub integer_case : ℕ → ℕ → Asked
integer_case node k = asked (1 ∷ []) (node ∷ 0x4008000000000000 ∷ []) (word_bytes k)

-- the same with NULL behind it
abbrev pub null_case : ℕ → Asked
null_case node = asked (1 ∷ []) (node ∷ 0 ∷ []) []

-- an integer cell at a place of the cell pool, and an absent one
abbrev pub cell : ℕ → ℕ
cell i = 0x4008000000000000 + 8 * i

abbrev pub absent : ℕ
absent = 0

-- four cells: least, greatest, blanks, rows
abbrev pub summary : ℕ → ℕ → ℕ → ℕ → Blocks
summary least greatest blanks rows = container (cell 0 ∷ cell 1 ∷ cell 2 ∷ cell 3 ∷ []) (bytes_of (least ∷ greatest ∷ blanks ∷ rows ∷ []))

-- bounds 10..20, blanks 0, rows 5
abbrev ten_to_twenty : Blocks
ten_to_twenty = summary 10 20 0 5

-- greatest, blanks; rows absent
abbrev rows_absent : ℕ → ℕ → Blocks
rows_absent greatest blanks = container (cell 0 ∷ cell 1 ∷ absent ∷ []) (bytes_of (greatest ∷ blanks ∷ []))

-- LIKE 'ab%', and least and greatest of two bytes each
abbrev like_ab : Asked
like_ab = asked (2 ∷ []) (0x9000000000000000 ∷ 0x8003000000000000 ∷ []) (97 ∷ 98 ∷ 37 ∷ [])

abbrev two_texts : ℕ → ℕ → ℕ → ℕ → Blocks
two_texts a b c d = container (0x8002000000000000 ∷ 0x8002000000000002 ∷ absent ∷ absent ∷ []) (a ∷ b ∷ c ∷ d ∷ [])

-- ---- the cases

abbrev pub whole : Case
whole =
    rewrites
    (asked (1 ∷ []) (0x7400000000000000 ∷ 0x4008000000000000 ∷ []) (0 ∷ 0 ∷ 0 ∷ 0 ∷ 0 ∷ 0 ∷ 0 ∷ 5 ∷ []))
    (0x1000000000000000 ∷ 0x5001020000000000 ∷ 0x3400000000000000 ∷ 0x4008000000000000 ∷ [])
    (0 ∷ 0 ∷ 0 ∷ 0 ∷ 0 ∷ 0 ∷ 0 ∷ 5 ∷ [])
    (0x0040000000000000 ∷ 0x0080000000000000 ∷ 0x00C0000000000000 ∷ [])
    []
    0x0000040008030000

-- false AND a = 1: constant false, four statistics; the guarantee stays
abbrev pub false_and : Case
false_and =
    rewrites
    (asked (1 ∷ []) (0x1000000000000000 ∷ 0 ∷ 0x7000000000000000 ∷ 0x4008000000000000 ∷ []) (word_bytes 1))
    (0 ∷ [])
    []
    (0x0000000000000000 ∷ 0x0040000000000000 ∷ 0x0080000000000000 ∷ 0x00C0000000000000 ∷ [])
    (0x0000010000000000 ∷ [])
    0x0000010000040100

abbrev pub cases : List Case
cases =
    whole
    ∷ false_and
    -- bounds 10..20, blanks 0, rows 5: = 9 drops, = 10 keeps, = 21 drops, = 20 keeps, = NULL keeps
    ∷ prunes (integer_case 0x7000000000000000 9) ten_to_twenty 0
    ∷ prunes (integer_case 0x7000000000000000 10) ten_to_twenty 1
    ∷ prunes (integer_case 0x7000000000000000 21) ten_to_twenty 0
    ∷ prunes (integer_case 0x7000000000000000 20) ten_to_twenty 1
    ∷ prunes (null_case 0x7000000000000000) ten_to_twenty 1
    -- ≠ 7 on 7..7 drops, on 7..8 keeps
    ∷ prunes (integer_case 0x7100000000000000 7) (summary 7 7 0 5) 0
    ∷ prunes (integer_case 0x7100000000000000 7) (summary 7 8 0 5) 1
    -- blanks = rows = 5, no bounds: = 3 drops
    ∷ prunes (integer_case 0x7000000000000000 3) (container (absent ∷ absent ∷ cell 0 ∷ cell 0 ∷ []) (word_bytes 5)) 0
    -- rows absent, blanks 3, > 5: greatest 5 drops, 6 keeps
    ∷ prunes (integer_case 0x7400000000000000 5) (rows_absent 5 3) 0
    ∷ prunes (integer_case 0x7400000000000000 5) (rows_absent 6 3) 1
    -- distinct from 7, bounds 1..2, blanks 0, rows 0: keeps; blanks and rows are listed first
    ∷ prunes (integer_case 0x7600000000000000 7) (summary 0 0 1 2) 1
    -- -c < 5: greatest -5 drops, -4 keeps
    ∷ prunes (integer_case 0x7200010000000000 5) (rows_absent (minus 5) 0) 0
    ∷ prunes (integer_case 0x7200010000000000 5) (rows_absent (minus 4) 0) 1
    -- -c > -2^63 keeps: constant true, no statistics
    ∷ prunes (integer_case 0x7400010000000000 (minus (2 ^ 63))) (container [] []) 1
    -- LIKE 'ab%': least 'ac' with greatest 'az' keeps, least 'ad' drops
    ∷ prunes like_ab (two_texts 97 99 97 122) 1
    ∷ prunes like_ab (two_texts 97 100 97 122) 0
    -- least 9, greatest 3, = 5 drops
    ∷ prunes (integer_case 0x7000000000000000 5) (summary 9 3 0 5) 0
    ∷ []

pub hold : All cases
unfolding order_by word_at word_bytes first_words words_of bytes_of signed negated suits literal_of below up_to is_utf8 runs step_of lead_of Utf8.encode Utf8.bytes_of increment raised allowed chars_of chars_from incremented prefix_of rest_of node_of values_at predicate_at formed check_literal check_literals node_fault check_from predicate_fault statistic_of place_of added added_all minuses turned members_table members_lists rewritten lists pool_of table_words guarantees table_node_of table_at statistic_fine statistics_fine statistics_of guarantees_fine table_formed check_table_from table_fine checked_table row_fine rows_fine cell_of up_to_two worth answers_drop types_fine rewrite_fault rewriting prune_fault flag_in flags_from pruning
hold = ((refl, refl), ((refl, refl), (refl, (refl, (refl, (refl, (refl, (refl, (refl, (refl, (refl, (refl, (refl, (refl, (refl, (refl, (refl, (refl, (refl, tt)))))))))))))))))))
