-- What writing a predicate's guarantees asks and does. Assumes nothing.
use Rattle.std.specs.Prelude.{◌≡◌, List, ℕ, ◌+◌, ◌*◌, ◌^◌, ◌≤◌, length}
use Rattle.std.proofs.Common.{arith}
use Rattle.std.proofs.lemmas.List.Edits.{sets}
use Rattle.limits.specs.Limits.{max_depth, guarantees_room}
use Rattle.words.specs.Word.{bytes_of}
use Rattle.predicate.specs.Predicates.{Predicate, Read}
use Rattle.predicate.specs.Measures.{width, depth}
use Rattle.predicate.specs.Accepted.{width_most, Whole}
use Rattle.guarantees.specs.Guarantees.{guarantees, guarantee_words}
use Rattle.guarantees.proofs.Bounds.{guarantees_most}
use Rattle.words.specs.declared.Walked.{Walked}

-- a predicate at a place, read with a depth d that sufficed, whose places are 16 bits and whose guarantees have room behind n others
pub record Room (p : Predicate) (d at n : ℕ) (out : List ℕ) : Type 0 where
  pub deep : depth p ≤ d
  pub placed : at + width p ≤ 2 ^ 16
  pub room : 8 * (n + length (guarantees at p)) ≤ length out

-- the guarantees of the predicate that is read as r at a place stand behind n others
pub record Wrote (r : Read) (at n : ℕ) (old new : List ℕ) (w : Walked ℕ) : Type 0 where
  pub next : w.next ≡ r.next
  pub count : w.value ≡ n + length (guarantees at r.predicate)
  pub bytes : new ≡ sets old (8 * n) (bytes_of (guarantee_words (guarantees at r.predicate)))

-- an accepted predicate has that room
pub whole_room : (schema ws : List ℕ) (p : Predicate) (out : List ℕ) → Whole schema ws p → guarantees_room ≤ length out → Room p max_depth 0 0 out
whole_room schema ws p out w h =
    record {
      deep = w.depth;
      placed = omega (arith, width_most p, w.nodes, w.listed);
      room = omega (arith, guarantees_most schema ws p w);
    }
