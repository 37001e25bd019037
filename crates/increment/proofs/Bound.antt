-- The upper bound of a pattern in its buffer, once the prefix stands at the front. Assumes nothing.
use mathlib.Core.Path.{◌≡◌, refl, sym, ap, ◌∙◌, subst}
use mathlib.Core.Bool.{false}
use mathlib.Core.List.{List, [], ◌∷◌}
use Prim.Native.Nat.{ℕ, ◌<◌}
use native.Mathlib.Nat.{zero-add}
use native.Mathlib.Omega.{arith}
use lib.ListN.{length, take, drop}
use lib.Seq.{drop-append_seam}
use Rattle.words.specs.Stores.{written, sets_front, length_written, take_written}
use Rattle.text.specs.Utf8.{Utf8}
use Rattle.text.specs.Pattern.{prefix_of, rest_of}
use Rattle.text.proofs.Match.{prefix_utf8}
use Rattle.text.specs.Wrote.{Wrote}
use Rattle.text.specs.Upper.{pick, increment_of, upper_of}
use Rattle.std.specs.Prelude.{Option, Some}
use Rattle.increment.specs.Outcome.{Outcome}

-- a front written twice
written_twice : (bs l : List ℕ) → written bs (written bs l) ≡ written bs l
written_twice bs l = rw (drop-append_seam bs (drop (length bs) l))

module _ (p old new : List ℕ) (n : ℕ) (room : length (prefix_of false p) < length old) (w : Wrote (prefix_of false p) 0 old new n) where
  size : n ≡ length (prefix_of false p)
  size = w.end ∙ zero-add (length (prefix_of false p))

  holds : new ≡ written (prefix_of false p) old
  holds = w.out ∙ sets_front old (prefix_of false p) (omega arith)

  front : take n new ≡ prefix_of false p
  front = rw (size, holds) (take_written (prefix_of false p) old)

  -- what the increment asks
  pub ready : Utf8 p → (n < length new) × Utf8 (take n new)
  ready u =
      let l : length (written (prefix_of false p) old) ≡ length old = length_written (prefix_of false p) old (omega arith) in
      (rw (size, holds, l) room, subst Utf8 (sym front) (prefix_utf8 p u))

  -- no wildcard: the prefix is the bound
  pub whole : length (rest_of false p) ≡ 0 → Outcome (upper_of p) (written (prefix_of false p) old) new (Some n)
  whole e = go (rest_of false p) e
    where
      go : (t : List ℕ) → length t ≡ 0 → Outcome (pick t (prefix_of false p) (increment_of (prefix_of false p))) (written (prefix_of false p) old) new (Some n)
      go [] e = record { end = ap Some size; out = holds ∙ sym (written_twice (prefix_of false p) old) }
      go (x ∷ t) e = absurd (omega arith)

  -- a wildcard: the increment is the bound
  pub risen : (length (rest_of false p) ≡ 0 → ⊥) → (last : List ℕ) (r : Option ℕ) → Outcome (increment_of (take n new)) new last r
      → Outcome (upper_of p) (written (prefix_of false p) old) last r
  risen h last r i = go (rest_of false p) h
    where
      go : (t : List ℕ) → (length t ≡ 0 → ⊥) → Outcome (pick t (prefix_of false p) (increment_of (prefix_of false p))) (written (prefix_of false p) old) last r
      go [] h = absurd (h refl)
      go (x ∷ t) h = rw (front, holds) at i
