-- Writing a table: the room that it asks, and what it leaves in the table's bytes and in the pool. Assumes nothing.
use Rattle.std.specs.Prelude.{◌≡◌, List, ℕ, ◌+◌, ◌*◌, ◌^◌, ◌≤◌, ◌<◌, length}
use Rattle.std.proofs.lemmas.List.Edits.{sets}
use Rattle.words.specs.Word.{bytes_of}
use Rattle.literals.specs.Literals.{value_of, bit_of, LiteralFits, LiteralInside}
use Rattle.literals.specs.declared.Literal.{Literal}
use Rattle.statistics.specs.declared.Statistic.{Statistic}
use Rattle.table.specs.Tables.{Table}
use Rattle.table.specs.Encoding.{number_of_kind, table_word, pool_of, table_words}
use Rattle.table.specs.Measures.{table_width}
use Rattle.listing.specs.Listing.{list_of}
use Rattle.writing.specs.declared.Spot.{Spot}
use Rattle.writing.specs.declared.TableWord.{TableWord}
use Rattle.writing.specs.declared.Writer.{Writer}

-- the word of a node
abbrev pub word_of : TableWord → ℕ
word_of n = table_word (number_of_kind n.kind) n.operator n.first.0 n.second.0 (bit_of n.literal_first)

-- room for n words more
abbrev pub Wide : ℕ → Spot → List ℕ → Type 0
Wide n s table = 8 * (s.to + n) ≤ length table

-- room for a table's words, and for its pool, whose offsets fit their fields
pub record Room (t : Table) (s : Spot) (table pool : List ℕ) : Type 0 where
  pub words : Wide (table_width t) s table
  pub bytes : s.off + length (pool_of t) ≤ length pool
  pub small : s.off + length (pool_of t) < 2 ^ 24

-- a literal that a word can hold, and whose text the pool has
pub record Ready (pool : List ℕ) (l : Literal) : Type 0 where
  pub inside : LiteralInside pool l
  pub fits : LiteralFits l

-- k has the same value as l, and its text is inside the pool
pub record Clipped (pool : List ℕ) (l k : Literal) : Type 0 where
  pub same : value_of pool k ≡ value_of pool l
  pub ready : Ready pool k

-- words put at a spot
pub record Head (ws : List ℕ) (s : Spot) (old new : List ℕ) (r : Spot) : Type 0 where
  pub answer : r ≡ record { to = s.to + length ws; off = s.off }
  pub table : new ≡ sets old (8 * s.to) (bytes_of ws)

-- words put at a spot, and bytes in the pool
pub record Put (ws bs : List ℕ) (s : Spot) (old new old_pool new_pool : List ℕ) (r : Spot) : Type 0 where
  pub answer : r ≡ record { to = s.to + length ws; off = s.off + length bs }
  pub table : new ≡ sets old (8 * s.to) (bytes_of ws)
  pub pool : new_pool ≡ sets old_pool s.off bs

-- a table written at a spot, its statistics by their places in a list
pub record Wrote (t : Table) (list : List Statistic) (s : Spot) (old new old_pool new_pool : List ℕ) (r : Spot) : Type 0 where
  pub answer : r ≡ record { to = s.to + table_width t; off = s.off + length (pool_of t) }
  pub table : new ≡ sets old (8 * s.to) (bytes_of (table_words list s.off t))
  pub pool : new_pool ≡ sets old_pool s.off (pool_of t)

-- ---- the same of a writer, before and after: it keeps its list, its table and its pool

abbrev pub WideFor : ℕ → Writer → Type 0
WideFor n w = Wide n w.at w.table.now

abbrev pub RoomFor : Table → Writer → Type 0
RoomFor t w = Room t w.at w.table.now w.pool.now

pub record Keeps (w v : Writer) : Type 0 where
  pub table : v.table.ghost_name ≡ w.table.ghost_name
  pub pool : v.pool.ghost_name ≡ w.pool.ghost_name
  pub list : v.list ≡ w.list

-- words put, the pool as it was
pub record HeadBy (ws : List ℕ) (w v : Writer) : Type 0 where
  pub head : Head ws w.at w.table.now v.table.now v.at
  pub pool : v.pool.now ≡ w.pool.now
  pub keeps : Keeps w v

-- words put, and bytes in the pool
pub record PutBy (ws bs : List ℕ) (w v : Writer) : Type 0 where
  pub put : Put ws bs w.at w.table.now v.table.now w.pool.now v.pool.now v.at
  pub keeps : Keeps w v

-- a table written
pub record WroteBy (t : Table) (w v : Writer) : Type 0 where
  pub wrote : Wrote t (list_of w.list.now) w.at w.table.now v.table.now w.pool.now v.pool.now v.at
  pub keeps : Keeps w v
