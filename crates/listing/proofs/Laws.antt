-- A turn of the search, and of a list's growth. Assumes nothing.
use Rattle.std.proofs.Common.{◌≡◌, sym, ◌∙◌, List, [], ◌∷◌, ◌++◌, ℕ, ◌+◌, ◌*◌, ◌/◌, ◌^◌, ◌≤◌, ◌<◌, arith, length, get_or, take, drop, drop_of_length-le, drop-cons, add-one, add-zero, eq-eqb, take_all}
use Rattle.std.proofs.Math.Seq.{take-suc}
use borrow.Author.Tests.{ne_eqb}
use Rattle.words.specs.Word.{words_of}
use Rattle.words.specs.WordLaws.{length_words}
use Rattle.statistics.specs.declared.Statistic.{Statistic}
use Rattle.statistics.specs.Statistics.{column_in, statistic_word, statistic_of, statistics_of, key_of, place_of}
use Rattle.listing.specs.Listing.{list_of, Room, Grown}
use Rattle.listing.specs.ListingLaws.{grown_none, room_first, room_next, grown_then}

-- the place is i more than that in what is left from word i on
pub record Left (s : Statistic) (i : ℕ) (bs : List ℕ) : Type 0 where
  pub place : place_of s (list_of bs) ≡ i + place_of s (statistics_of (drop i (words_of bs)))

module _ (s : Statistic) (bs : List ℕ) (i : ℕ) (left : Left s i bs) where
  step : i < length bs / 8 → statistics_of (drop i (words_of bs)) ≡ statistic_of (get_or (words_of bs) i 0) ∷ statistics_of (drop (i + 1) (words_of bs))
  unfolding statistics_of
  step h =
      let k : i < length (words_of bs) = rw length_words h in
      rw (drop-cons (words_of bs) i 0 k, add-one)

  pub place_here : i < length bs / 8 → key_of (statistic_of (get_or (words_of bs) i 0)) ≡ key_of s → i ≡ place_of s (list_of bs)
  unfolding place_of
  place_here h e = sym (left.place ∙ rw (step h, eq-eqb _ _ e, add-zero))

  pub place_on : i < length bs / 8 → (key_of (statistic_of (get_or (words_of bs) i 0)) ≡ key_of s → ⊥) → Left s (i + 1) bs
  unfolding place_of
  place_on h e = record { place = left.place ∙ rw (step h, ne_eqb _ _ e) (omega arith) }

  pub place_end : length bs / 8 ≤ i → i ≤ length bs / 8 → length bs / 8 ≡ place_of s (list_of bs)
  unfolding place_of statistics_of
  place_end h m =
      let k : length (words_of bs) ≤ i = rw length_words h in
      sym (left.place ∙ rw (drop_of_length-le (words_of bs) k, add-zero) (omega arith))

-- a word of 64 bits has a column of eight
pub word_column : (s : Statistic) → statistic_word s < 2 ^ 64 → column_in s < 256
word_column s h = omega arith

-- the first i of ss were added to the first n, and there is room for the others
pub record Added (ss : List Statistic) (i n : ℕ) (old now : List ℕ) (m : ℕ) : Type 0 where
  pub front : 8 * n ≤ length old
  pub grown : Grown (take i ss) n old now m
  pub room : Room (drop i ss) m now

pub added_none : (ss : List Statistic) (n : ℕ) (bs : List ℕ) → Room ss n bs → Added ss 0 n bs bs n
added_none ss n bs r = record { front = r.front; grown = grown_none n bs r.front; room = r }

module _ (ss : List Statistic) (i n : ℕ) (old now : List ℕ) (m : ℕ) (a : Added ss i n old now m) (d : Statistic) (more : i < length ss) where
  rest : drop i ss ≡ (get_or ss i d ∷ []) ++ drop (i + 1) ss
  rest = rw (drop-cons ss i d more, add-one)

  pub room_one : Room (get_or ss i d ∷ []) m now
  room_one = room_first (get_or ss i d ∷ []) (drop (i + 1) ss) m now (rw rest at a.room)

  pub added_one : (new : List ℕ) (r : ℕ) → Grown (get_or ss i d ∷ []) m now new r → Added ss (i + 1) n old new r
  added_one new r g = record {
    front = a.front;
    grown = rw (add-one, take-suc ss i d more) (grown_then (take i ss) (get_or ss i d ∷ []) n old m now a.grown new r a.front g);
    room = room_next (get_or ss i d ∷ []) (drop (i + 1) ss) m now r new g (rw rest at a.room);
  }

pub added_all : (ss : List Statistic) (i n : ℕ) (old now : List ℕ) (m : ℕ) → Added ss i n old now m → length ss ≤ i → Grown ss n old now m
added_all ss i n old now m a end = rw take_all at a.grown
