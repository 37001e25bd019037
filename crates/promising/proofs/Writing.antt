-- Writing none, one, or those of both sides of an AND. Assumes nothing.
use mathlib.Core.Path.{◌≡◌, refl, sym, ap, ◌∙◌}
use mathlib.Core.List.{List, [], ◌∷◌, ◌++◌}
use Prim.Native.Nat.{ℕ, ◌+◌, ◌*◌, ◌-◌, ◌^◌, ◌≤◌, ◌<◌}
use native.Mathlib.Omega.{arith}
use lib.ListN.{length, length-append}
use lib.Seq.{sets, length-sets}
use Rattle.words.specs.Word.{word_bytes, bytes_of}
use Rattle.words.specs.WordLaws.{bytes_none, bytes_one, bytes_append, length_bytes}
use Rattle.words.specs.Stores.{sets_then}
use Rattle.kleene.specs.declared.Joining.TheVariants.{And}
use Rattle.predicate.specs.Predicates.{Predicate, constant, join, not, column, is_null, is_not_null, comparison, list, like, Read, then_both, predicate_at}
use Rattle.predicate.specs.Measures.{width}
use Rattle.guarantees.specs.Guarantees.{Guarantee, guarantees, guarantee_words}
use Rattle.guarantees.specs.GuaranteeLaws.{length_guarantees}
use Rattle.walking.specs.Places.{next_width}
use Rattle.promising.specs.Wrote.{Room, Wrote}
use Rattle.words.specs.declared.Walked.{Walked}

pub wrote_none : (r : Read) (at n m : ℕ) (old : List ℕ) → m ≡ r.next → guarantees at r.predicate ≡ [] → Wrote r at n old old (record { value = n; next = m })
wrote_none r at n m old e k =
    record { next = e; count = rw k (omega arith); bytes = rw (k, bytes_none) }

one_long : (gs : List Guarantee) (w : ℕ) → guarantee_words gs ≡ w ∷ [] → length gs ≡ 1
one_long gs w k = sym (length_guarantees gs) ∙ rw k

pub wrote_one : (r : Read) (at n m w : ℕ) (old new : List ℕ) → m ≡ r.next → guarantee_words (guarantees at r.predicate) ≡ w ∷ []
    → new ≡ sets old (8 * n) (word_bytes w) → Wrote r at n old new (record { value = n + 1; next = m })
wrote_one r at n m w old new e k b =
    record { next = e; count = rw (one_long (guarantees at r.predicate) w k); bytes = rw (k, bytes_one) b }

words_append : (a b : List Guarantee) → guarantee_words (a ++ b) ≡ guarantee_words a ++ guarantee_words b
words_append [] b = refl
words_append (g ∷ a) b = rw (words_append a b)

width_some : (p : Predicate) → 1 ≤ width p
width_some (constant t) = omega arith
width_some (join j l r) = omega arith
width_some (not p) = omega arith
width_some (column c) = omega arith
width_some (is_null c) = omega arith
width_some (is_not_null c) = omega arith
width_some (comparison o c n b v) = omega arith
width_some (list b c n vs) = omega arith
width_some (like b c v) = omega arith

-- the node word's place is 16 bits
pub room_place : (p : Predicate) (d at n : ℕ) (out : List ℕ) → Room p d at n out → at < 2 ^ 16
room_place p d at n out h = omega (arith, h.placed, width_some p)

-- room for one
pub room_one : (p : Predicate) (d at n w : ℕ) (out : List ℕ) → Room p d at n out → guarantee_words (guarantees at p) ≡ w ∷ [] → 8 * n + 8 ≤ length out
room_one p d at n w out h k = omega (arith, h.room, one_long (guarantees at p) w k)

-- ---- both sides of an AND

module _ (pool ws : List ℕ) (d at n : ℕ) (out : List ℕ) (some : d ≡ 0 → ⊥) where
  abbrev child : ℕ → Read
  child = predicate_at pool ws (d - 1)

  abbrev first : Read
  first = child (at + 1)

  abbrev second : Read
  second = child first.next

  -- what both give
  both_give : guarantees at (then_both And child first).predicate
      ≡ guarantees (at + 1) first.predicate ++ guarantees (at + 1 + width first.predicate) second.predicate
  unfolding guarantees
  both_give = refl

  module _ (h : Room (then_both And child first).predicate d at n out) where
    all_long : length (guarantees at (then_both And child first).predicate)
        ≡ length (guarantees (at + 1) first.predicate) + length (guarantees (at + 1 + width first.predicate) second.predicate)
    all_long = rw (both_give, length-append)

    pub room_first : Room first.predicate (d - 1) (at + 1) n out
    room_first =
        record {
          deep = omega (arith, h.deep);
          placed = omega (arith, h.placed);
          room = omega (arith, h.room, all_long);
        }

    module _ (new : List ℕ) (w : Walked ℕ) (a : Wrote first (at + 1) n out new w) where
      -- where the second begins
      begins : w.next ≡ at + 1 + width first.predicate
      begins = a.next ∙ next_width pool ws (d - 1) (at + 1) room_first.deep

      same : length new ≡ length out
      same = rw (a.bytes, length-sets)

      pub room_second : Room (child w.next).predicate (d - 1) w.next w.value new
      room_second =
          let e : child w.next ≡ second = rw a.next in
          rw (e, begins)
          (record {
            deep = omega (arith, h.deep);
            placed = omega (arith, h.placed);
            room = omega (arith, h.room, all_long, a.count, same);
          })

      pub wrote_both : (end : List ℕ) (v : Walked ℕ) → Wrote (child w.next) w.next w.value new end v → Wrote (then_both And child first) at n out end v
      wrote_both end v b =
          let xs : List Guarantee = guarantees (at + 1) first.predicate in
          let ys : List Guarantee = guarantees (at + 1 + width first.predicate) second.predicate in
          let e : child w.next ≡ second = rw a.next in
          let ey : guarantees w.next (child w.next).predicate ≡ ys = rw (e, begins) in
          let place : 8 * w.value ≡ 8 * n + length (bytes_of (guarantee_words xs)) = rw (length_bytes, length_guarantees) (omega (arith, a.count)) in
          record {
            next = b.next ∙ ap (λ (x : Read). x.next) e;
            count = omega (arith, b.count, a.count, all_long, ap length ey);
            bytes =
                b.bytes ∙ rw (ey, a.bytes, both_give, words_append, bytes_append)
                (sets_then out (8 * n) (8 * w.value) (bytes_of (guarantee_words xs)) (bytes_of (guarantee_words ys)) place);
          }
