-- A rewriting call from its refusal, or none, to its outputs: in the terms of the code. Assumes nothing.
use Rattle.std.specs.Prelude.{◌≡◌, refl, List, [], ◌∷◌, ℕ, zero, suc, ◌+◌, ◌*◌, ◌/◌, ◌^◌, ◌≤◌, ◌<◌, length, take}
use Rattle.std.proofs.Common.{sym, ap, ◌∙◌, zero-add, arith, length-take-le}
use Rattle.std.proofs.lemmas.List.Edits.{sets}
use Rattle.limits.specs.Limits.{max_depth}
use Rattle.words.specs.Word.{words_of, bytes_of}
use Rattle.words.specs.WordLaws.{length_bytes}
use Rattle.words.specs.Layout.{packed}
use Rattle.words.specs.Stores.{written, sets_front, take_written, length_written}
use Rattle.predicate.specs.Predicates.{Predicate, predicate_at}
use Rattle.predicate.specs.Calls.{rewrite_fault}
use Rattle.predicate.specs.declared.Rooms.{Rooms}
use Rattle.statistics.specs.declared.Statistic.{Statistic}
use Rattle.statistics.specs.Statistics.{statistic_words}
use Rattle.statistics.specs.ListLaws.{length_statistics}
use Rattle.table.specs.Tables.{Table}
use Rattle.table.specs.Rewriting.{rewritten, statistics}
use Rattle.table.specs.Encoding.{pool_of, table_words}
use Rattle.table.specs.Measures.{table_width, width_is}
use Rattle.table.proofs.Bounds.{words_most, pool_most}
use Rattle.table.proofs.Naming.{statistics_most}
use Rattle.guarantees.specs.Guarantees.{guarantees, guarantee_words}
use Rattle.guarantees.proofs.Bounds.{guarantees_most}
use Rattle.guarantees.specs.GuaranteeLaws.{length_guarantees}
use Rattle.listing.specs.Listing.{list_of, Few}
use Rattle.writing.specs.declared.Spot.{Spot}
use Rattle.writing.specs.Writing.{Room, Wrote}
use Rattle.words.specs.declared.Walked.{Walked}
use Rattle.promising.specs.Wrote as Promised
use Rattle.promising.specs.Wrote.{whole_room}
use Rattle.spill.specs.Rewrite.{answer_layout, predicate_of, outputs, rewriting, answer_word}
use Rattle.spill.specs.Bounds.{Taken, taken, call_list}
use Rattle.spill.specs.Done.{Buffers, Rewrote}

-- the four outputs of a call
abbrev pub buffers_of : List ℕ → List ℕ → List ℕ → List ℕ → Buffers
buffers_of table pool stats guars = record { table = table; pool = pool; statistics = stats; guarantees = guars }

-- and their lengths
abbrev pub rooms_of : Buffers → Rooms
rooms_of b =
    record {
      table = length b.table;
      pool = length b.pool;
      statistics = length b.statistics;
      guarantees = length b.guarantees;
    }

-- ---- a refusal

refusal_word : (n : ℕ) → n * 2 ^ 56 ≡ packed answer_layout (n ∷ 0 ∷ 0 ∷ 0 ∷ 0 ∷ 0 ∷ [])
refusal_word n = omega arith

pub rewrote_refused : (schema predicate pool : List ℕ) (limit : ℕ) (b : Buffers) (n : ℕ) → n ≡ rewrite_fault schema predicate pool limit (rooms_of b)
    → (n ≡ 0 → ⊥) → Rewrote (rewriting schema predicate pool limit (rooms_of b)) b b (n * 2 ^ 56)
unfolding rewriting
rewrote_refused schema predicate pool limit b zero e h = absurd (h refl)
rewrote_refused schema predicate pool limit b (suc n) e h =
    rw (← e) (record { answer = refusal_word (suc n); table = refl; pool = refl; statistics = refl; guarantees = refl })

-- ---- an accepted call

module _ (schema predicate pool : List ℕ) (limit : ℕ) (old : Buffers) (e : rewrite_fault schema predicate pool limit (rooms_of old) ≡ 0) where
  abbrev asked : Predicate
  asked = predicate_of predicate pool

  abbrev list : List Statistic
  list = statistics limit schema asked

  abbrev table : Table
  table = rewritten limit schema asked

  -- what the call says
  pub accepted : Taken schema predicate pool limit (rooms_of old)
  accepted = taken schema predicate pool limit (rooms_of old) e

  -- the statistics stand in front of their buffer
  module _ (n : ℕ) (new : List ℕ) (k : n ≡ length list) (w : new ≡ written (bytes_of (statistic_words list)) old.statistics) where
    pub front : take (8 * n) new ≡ bytes_of (statistic_words list)
    front =
        let l : 8 * n ≡ length (bytes_of (statistic_words list)) = rw (length_bytes, length_statistics) (omega arith) in
        rw (l, w) (take_written (bytes_of (statistic_words list)) old.statistics)

    pub front_list : list_of (take (8 * n) new) ≡ list
    front_list = ap list_of front ∙ call_list schema predicate pool limit (rooms_of old) e

    pub front_few : Few (take (8 * n) new)
    front_few =
        let s = statistics_most limit schema asked (length schema) accepted.whole.columns in
        let f = accepted.few in
        rw front (omega (arith, length_bytes (statistic_words list), length_statistics list))

    pub front_fits : 8 * n ≤ length new
    front_fits =
        let s = statistics_most limit schema asked (length schema) accepted.whole.columns in
        let f = accepted.few in
        let r = accepted.statistics in
        let l : length (bytes_of (statistic_words list)) ≤ length old.statistics = rw (length_bytes, length_statistics) (omega arith) in
        rw (w, length_written (bytes_of (statistic_words list)) old.statistics l) (omega arith)

    pub front_count : 8 * n ≡ length (take (8 * n) new)
    front_count = sym (length-take-le (8 * n) new front_fits)

  -- the table has its room
  pub roomy : Room table (record { to = 0; off = 0 }) old.table old.pool
  roomy =
      let w = words_most limit schema (words_of predicate) asked accepted.whole in
      let b = pool_most limit schema (words_of predicate) asked accepted.whole in
      record {
        words = omega (arith, accepted.table);
        bytes = omega (arith, accepted.table_pool);
        small = omega arith;
      }

  -- the guarantees too
  pub promised : Promised.Room asked max_depth 0 0 old.guarantees
  promised = whole_room schema (words_of predicate) asked old.guarantees accepted.whole accepted.guarantees

  -- the counts fit the answer word
  pub counts : (s : Spot) (g : Walked ℕ) (n : ℕ) → s ≡ record { to = 0 + table_width table; off = 0 + length (pool_of table) } → n ≡ length list
      → g.value ≡ 0 + length (guarantees 0 asked) → (s.to < 2 ^ 16) × (s.off < 2 ^ 16) × (n < 2 ^ 8) × (g.value < 2 ^ 8)
  counts s g n a k c =
      let w = words_most limit schema (words_of predicate) asked accepted.whole in
      let b = pool_most limit schema (words_of predicate) asked accepted.whole in
      let m = statistics_most limit schema asked (length schema) accepted.whole.columns in
      let p = guarantees_most schema (words_of predicate) asked accepted.whole in
      let f = accepted.few in
      let to : s.to ≡ 0 + table_width table = ap (λ (x : Spot). x.to) a in
      let off : s.off ≡ 0 + length (pool_of table) = ap (λ (x : Spot). x.off) a in
      (omega arith, omega arith, omega arith, omega arith)

  eight : (n : ℕ) → 8 * n / 8 ≡ n
  eight n = omega arith

  answer_is : answer_word (outputs limit schema asked)
      ≡ packed answer_layout (0 ∷ table_width table ∷ length (pool_of table) ∷ length list ∷ length (guarantees 0 asked) ∷ 0 ∷ [])
  answer_is =
      let a : length (bytes_of (table_words list 0 table)) / 8 ≡ table_width table = rw (length_bytes, width_is list 0 table) (eight (table_width table)) in
      let b : length (bytes_of (statistic_words list)) / 8 ≡ length list = rw (length_bytes, length_statistics) (eight (length list)) in
      let c : length (bytes_of (guarantee_words (guarantees 0 asked))) / 8 ≡ length (guarantees 0 asked) =
      rw (length_bytes, length_guarantees) (eight (length (guarantees 0 asked))) in
      rw (a, b, c)

  -- a front that was set was written
  front_set : (l bs new : List ℕ) → length bs ≤ length l → new ≡ sets l 0 bs → new ≡ written bs l
  front_set l bs new h s = s ∙ sets_front l bs h

  pub rewrote_outputs : (new : Buffers) (s : Spot) (g : Walked ℕ) (n r : ℕ) → new.statistics ≡ written (bytes_of (statistic_words list)) old.statistics
      → n ≡ length list → Wrote table list (record { to = 0; off = 0 }) old.table new.table old.pool new.pool s
      → Promised.Wrote (predicate_at pool (words_of predicate) max_depth 0) 0 0 old.guarantees new.guarantees g
      → r ≡ packed answer_layout (0 ∷ s.to ∷ s.off ∷ n ∷ g.value ∷ 0 ∷ []) → Rewrote (outputs limit schema asked) old new r
  rewrote_outputs new s g n r st k w p a =
      let m = roomy in
      let q = promised in
      let to : s.to ≡ table_width table = ap (λ (x : Spot). x.to) w.answer ∙ zero-add _ in
      let off : s.off ≡ length (pool_of table) = ap (λ (x : Spot). x.off) w.answer ∙ zero-add _ in
      let gs : g.value ≡ length (guarantees 0 asked) = p.count ∙ zero-add _ in
      let lt : length (bytes_of (table_words list 0 table)) ≤ length old.table = rw (length_bytes, width_is list 0 table) (omega (arith, m.words)) in
      let lg : length (bytes_of (guarantee_words (guarantees 0 asked))) ≤ length old.guarantees = rw (length_bytes, length_guarantees) (omega (arith, q.room)) in
      record {
        answer = a ∙ rw (to, off, k, gs) (sym answer_is);
        table = front_set old.table (bytes_of (table_words list 0 table)) new.table lt w.table;
        pool = front_set old.pool (pool_of table) new.pool (omega (arith, m.bytes)) w.pool;
        statistics = st;
        guarantees = front_set old.guarantees (bytes_of (guarantee_words (guarantees 0 asked))) new.guarantees lg p.bytes;
      }

pub rewrote_done : (schema predicate pool : List ℕ) (limit : ℕ) (old new : Buffers) (n r : ℕ) → n ≡ rewrite_fault schema predicate pool limit (rooms_of old)
    → n ≡ 0 → Rewrote (outputs limit schema (predicate_of predicate pool)) old new r
    → Rewrote (rewriting schema predicate pool limit (rooms_of old)) old new r
unfolding rewriting
rewrote_done schema predicate pool limit old new n r e z w = let q : rewrite_fault schema predicate pool limit (rooms_of old) ≡ 0 = sym e ∙ z in rw q w
