-- What a rewriting call is refused for: its schema, its limits, its rooms, then its predicate. Assumes nothing.
use Rattle.std.specs.Prelude.{Bool, cond, ◌&&◌, List, ℕ, ◌%◌, length, eqb, leb}
use Rattle.limits.specs.Limits.{max_list_limit, max_pool_bytes, table_room, table_pool_room, statistics_room, guarantees_room, bad_schema, bad_limit, no_room, malformed}
use Rattle.words.specs.Word.{words_of}
use Rattle.predicate.specs.Checking.{schema_fine, predicate_fault}
-- the lengths of the four lent outputs
pub use Rattle.predicate.specs.declared.Rooms.{Rooms}

abbrev pub roomy : Rooms → Bool
roomy r =
    leb table_room r.table && (leb table_pool_room r.pool && (leb statistics_room r.statistics && leb guarantees_room r.guarantees))

-- 1, 2, 3, whole words, then word by word
unfoldable pub rewrite_fault : List ℕ → List ℕ → List ℕ → ℕ → Rooms → ℕ
rewrite_fault schema predicate pool limit rooms =
    cond (schema_fine schema)
    (cond (leb limit max_list_limit && leb (length pool) max_pool_bytes)
    (cond (roomy rooms)
    (cond (eqb (length predicate % 8) 0) (predicate_fault schema pool (words_of predicate)) malformed)
    no_room)
    bad_limit)
    bad_schema
