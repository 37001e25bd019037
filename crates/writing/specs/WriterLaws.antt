-- How written parts join, said of a writer before and after: WritingLaws with the writer's parts put in. Assumes nothing.
use Rattle.std.specs.Prelude.{◌≡◌, refl, Bool, List, [], ◌∷◌, ◌++◌, ℕ, ◌+◌, length}
use Rattle.std.proofs.Common.{◌∙◌}
use Rattle.kleene.specs.declared.Joining.{Joining}
use Rattle.predicate.specs.declared.Column.{Column}
use Rattle.statistics.specs.declared.Statistic.{Statistic}
use Rattle.table.specs.Tables.{Table, always, both, negation}
use Rattle.table.specs.Comparisons.{wrapped}
use Rattle.table.specs.Nests.{join_word}
use Rattle.table.specs.Encoding.{pool_of, table_words}
use Rattle.table.specs.Measures.{table_width}
use Rattle.listing.specs.Listing.{list_of, Few}
use Rattle.writing.specs.declared.Writer.{Writer}
use Rattle.writing.specs.Writing.{Wrote, WideFor, RoomFor, Keeps, HeadBy, WroteBy}
use Rattle.writing.specs.WritingLaws.{not_word, wrap_words, head_then, wrote_wrapped, wrote_negation, wrote_both, wide_head, wide_wrote, room_wrapped, room_negation, room_word, room_left, room_right}

-- what is kept twice over
pub keeps_then : (w a v : Writer) → Keeps w a → Keeps a v → Keeps w v
keeps_then w a v h k = record { table = k.table ∙ h.table; pool = k.pool ∙ h.pool; list = k.list ∙ h.list }

pub few_kept : (w v : Writer) → Keeps w v → Few w.list.now → Few v.list.now
few_kept w v k h = rw k.list h

pub heads_by : (xs ys : List ℕ) (w a v : Writer) → HeadBy xs w a → HeadBy ys a v → HeadBy (xs ++ ys) w v
heads_by xs ys w a v h k =
    record {
      head = head_then xs ys w.at a.at v.at w.table.now a.table.now v.table.now h.head k.head;
      pool = k.pool ∙ h.pool;
      keeps = keeps_then w a v h.keeps k.keeps;
    }

pub both_by : (j : Joining) (x y : Table) (w a b v : Writer) → HeadBy (join_word j ∷ []) w a → WroteBy x a b → WroteBy y b v → WroteBy (both j x y) w v
both_by j x y w a b v h p q =
    let p' = rw (h.pool, h.keeps.list) at p.wrote in
    let q' = rw (p.keeps.list, h.keeps.list) at q.wrote in
    record {
      wrote = wrote_both (list_of w.list.now) j x y w.at a.at b.at v.at w.table.now a.table.now b.table.now v.table.now w.pool.now b.pool.now v.pool.now h.head p' q';
      keeps = keeps_then w a v h.keeps (keeps_then a b v p.keeps q.keeps);
    }

pub negation_by : (x : Table) (w a v : Writer) → HeadBy (not_word ∷ []) w a → WroteBy x a v → WroteBy (negation x) w v
negation_by x w a v h p =
    let p' = rw (h.pool, h.keeps.list) at p.wrote in
    record {
      wrote = wrote_negation (list_of w.list.now) w.at a.at v.at w.table.now a.table.now v.table.now w.pool.now v.pool.now x h.head p';
      keeps = keeps_then w a v h.keeps p.keeps;
    }

pub wrapped_by : (c : Column) (x : Table) (w a v : Writer) → HeadBy (wrap_words (list_of w.list.now) c) w a → WroteBy x a v → WroteBy (wrapped c x) w v
wrapped_by c x w a v h p =
    let p' = rw (h.pool, h.keeps.list) at p.wrote in
    record {
      wrote = wrote_wrapped (list_of w.list.now) w.at a.at v.at w.table.now a.table.now v.table.now w.pool.now v.pool.now c x h.head p';
      keeps = keeps_then w a v h.keeps p.keeps;
    }

-- ---- the room behind what was written

pub wide_head_by : (n : ℕ) (ws : List ℕ) (w a : Writer) → WideFor (length ws + n) w → HeadBy ws w a → WideFor n a
wide_head_by n ws w a m h = wide_head n ws w.at a.at w.table.now a.table.now m h.head

pub wide_wrote_by : (n : ℕ) (x : Table) (w a : Writer) → WideFor (table_width x + n) w → WroteBy x w a → WideFor n a
wide_wrote_by n x w a m p = wide_wrote n x (list_of w.list.now) w.at a.at w.table.now a.table.now w.pool.now a.pool.now m p.wrote

pub room_wrapped_by : (c : Column) (x : Table) (w a : Writer) → RoomFor (wrapped c x) w → HeadBy (wrap_words (list_of w.list.now) c) w a → RoomFor x a
room_wrapped_by c x w a m h = rw h.pool (room_wrapped (list_of w.list.now) c x w.at a.at w.table.now a.table.now w.pool.now m h.head)

pub room_negation_by : (x : Table) (w a : Writer) → RoomFor (negation x) w → HeadBy (not_word ∷ []) w a → RoomFor x a
room_negation_by x w a m h = rw h.pool (room_negation x w.at a.at w.table.now a.table.now w.pool.now m h.head)

module _ (j : Joining) (x y : Table) (w : Writer) (m : RoomFor (both j x y) w) where
  pub room_word_by : WideFor 1 w
  room_word_by = room_word j x y w.at w.table.now w.pool.now m

  module _ (a : Writer) (h : HeadBy (join_word j ∷ []) w a) where
    pub room_left_by : RoomFor x a
    room_left_by = rw h.pool (room_left j x y w.at a.at w.table.now a.table.now w.pool.now m h.head)

    pub room_right_by : (b : Writer) → WroteBy x a b → RoomFor y b
    room_right_by b p =
        let p' = rw h.pool at p.wrote in
        room_right j x y w.at a.at w.table.now a.table.now w.pool.now m h.head (list_of a.list.now) b.at b.table.now b.pool.now p'

-- ---- a table that puts nothing in the pool is written for every pool, and one that names no statistic for every list

pub written_for : (t : Table) (list : List Statistic) (pool : List ℕ) (w v : Writer) → WroteBy t w v → pool_of t ≡ []
    → table_words list w.at.off t ≡ table_words (list_of w.list.now) w.at.off t → Wrote t list w.at w.table.now v.table.now pool pool v.at
written_for t list pool w v p e f =
    record { answer = p.wrote.answer; table = p.wrote.table ∙ rw f; pool = rw e }

pub always_for : (b : Bool) (list : List Statistic) (pool : List ℕ) (w v : Writer) → WroteBy (always b) w v
    → Wrote (always b) list w.at w.table.now v.table.now pool pool v.at
unfolding table_words pool_of
always_for b list pool w v p = written_for (always b) list pool w v p refl refl
