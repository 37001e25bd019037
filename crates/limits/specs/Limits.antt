-- Room and refusals: every limit of document 01 and the number of each refusal, each written once. Assumes nothing.
use Rattle.std.specs.Prelude.{ℕ}

-- ---- limits

abbrev pub max_columns : ℕ
max_columns = 64

abbrev pub max_nodes : ℕ
max_nodes = 255

-- of a predicate; the root is 1
abbrev pub max_depth : ℕ
max_depth = 32

-- of all lists together
abbrev pub max_list_literals : ℕ
max_list_literals = 256

abbrev pub max_literal_bytes : ℕ
max_literal_bytes = 1024

-- of all literals together
abbrev pub max_all_literal_bytes : ℕ
max_all_literal_bytes = 8192

abbrev pub max_pool_bytes : ℕ
max_pool_bytes = 65536

abbrev pub max_containers : ℕ
max_containers = 4096

abbrev pub max_list_limit : ℕ
max_list_limit = 256

-- of a checked table, its literals no level
abbrev pub max_table_depth : ℕ
max_table_depth = 289

-- a text literal of a checked table: an increment may be one byte longer than its prefix
abbrev pub max_table_text_bytes : ℕ
max_table_text_bytes = 1025

-- of a rewritten table: 8 for each of 128 leaves and 256 list literals, less one
abbrev pub max_table_words : ℕ
max_table_words = 3071

-- of a statistics list: three of each column, and rows
abbrev pub max_statistics : ℕ
max_statistics = 193

-- one for each of 128 leaves
abbrev pub max_guarantees : ℕ
max_guarantees = 128

-- ---- rooms, in bytes

abbrev pub table_room : ℕ
table_room = 24576

abbrev pub table_pool_room : ℕ
table_pool_room = 16512

abbrev pub statistics_room : ℕ
statistics_room = 1544

abbrev pub guarantees_room : ℕ
guarantees_room = 1024

-- ---- refusals

abbrev pub bad_schema : ℕ
bad_schema = 1

abbrev pub bad_limit : ℕ
bad_limit = 2

abbrev pub no_room : ℕ
no_room = 3

abbrev pub malformed : ℕ
malformed = 4

abbrev pub over_limit : ℕ
over_limit = 5

abbrev pub misfit : ℕ
misfit = 6

abbrev pub bad_containers : ℕ
bad_containers = 7

abbrev pub bad_table : ℕ
bad_table = 8

abbrev pub bad_grid : ℕ
bad_grid = 9

abbrev pub bad_answers : ℕ
bad_answers = 10
