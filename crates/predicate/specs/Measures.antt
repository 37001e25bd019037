-- How large a predicate is: its words, nodes, leaves, depth, list literals and literal bytes. Assumes nothing.
use Rattle.std.specs.Prelude.{List, [], ◌∷◌, ℕ, suc, ◌+◌, max, length}
use Rattle.literals.specs.Literals.{Value, value_bytes}
use Rattle.predicate.specs.Predicates.{Predicate, constant, join, not, column, is_null, is_not_null, comparison, list, like}

-- words, literals included
abbrev pub width : Predicate → ℕ
width (constant t) = 1
width (join j l r) = 1 + width l + width r
width (not p) = 1 + width p
width (column c) = 1
width (is_null c) = 1
width (is_not_null c) = 1
width (comparison o c n b v) = 2
width (list b c n vs) = 1 + length vs
width (like b c v) = 2

-- node words
abbrev pub nodes : Predicate → ℕ
nodes (constant t) = 1
nodes (join j l r) = 1 + nodes l + nodes r
nodes (not p) = 1 + nodes p
nodes (column c) = 1
nodes (is_null c) = 1
nodes (is_not_null c) = 1
nodes (comparison o c n b v) = 1
nodes (list b c n vs) = 1
nodes (like b c v) = 1

-- nodes with no predicate behind them
abbrev pub leaves : Predicate → ℕ
leaves (constant t) = 1
leaves (join j l r) = leaves l + leaves r
leaves (not p) = leaves p
leaves (column c) = 1
leaves (is_null c) = 1
leaves (is_not_null c) = 1
leaves (comparison o c n b v) = 1
leaves (list b c n vs) = 1
leaves (like b c v) = 1

-- levels; the root is 1
abbrev pub depth : Predicate → ℕ
depth (constant t) = 1
depth (join j l r) = suc (max (depth l) (depth r))
depth (not p) = suc (depth p)
depth (column c) = 1
depth (is_null c) = 1
depth (is_not_null c) = 1
depth (comparison o c n b v) = 1
depth (list b c n vs) = 1
depth (like b c v) = 1

-- list literals of all lists
abbrev pub listed : Predicate → ℕ
listed (constant t) = 0
listed (join j l r) = listed l + listed r
listed (not p) = listed p
listed (column c) = 0
listed (is_null c) = 0
listed (is_not_null c) = 0
listed (comparison o c n b v) = 0
listed (list b c n vs) = length vs
listed (like b c v) = 0

-- bytes of values
abbrev pub values_bytes : List Value → ℕ
values_bytes [] = 0
values_bytes (v ∷ vs) = length (value_bytes v) + values_bytes vs

-- bytes of all literals
abbrev pub literal_bytes : Predicate → ℕ
literal_bytes (constant t) = 0
literal_bytes (join j l r) = literal_bytes l + literal_bytes r
literal_bytes (not p) = literal_bytes p
literal_bytes (column c) = 0
literal_bytes (is_null c) = 0
literal_bytes (is_not_null c) = 0
literal_bytes (comparison o c n b v) = length (value_bytes v)
literal_bytes (list b c n vs) = values_bytes vs
literal_bytes (like b c v) = length (value_bytes v)
