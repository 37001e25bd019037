-- The incremented text in its buffer, for any rule. Assumes nothing.
use mathlib.Core.Path.{◌≡◌, refl, sym, ap, ◌∙◌}
use mathlib.Core.List.{List, [], ◌∷◌, ◌++◌}
use mathlib.Core.Option.{Option, some, none}
use Prim.Native.Nat.{ℕ, ◌+◌, ◌≤◌, ◌<◌}
use native.Mathlib.Omega.{arith}
use lib.ListN.{length, take, length-append}
use lib.Seq.{sets, sets-eq, length-take-le, take-take, take-append_seam}
use Rattle.words.specs.Stores.{written}
use Rattle.text.specs.Utf8.{Utf8, encode, bytes_of, bytes_append, scalar_top}
use Rattle.text.specs.Increment.{Raises, Raise, rise, rise_room, rise_front, rise_scalar, increment_rise}
use Rattle.text.specs.Chars.{chars_of, bytes_chars, incremented}
use Rattle.increment.proofs.Last.{last_bytes}
use Rattle.std.specs.Prelude.{Some, None}
use Rattle.increment.specs.Outcome.{place_of, Outcome}

-- what an answer of the search says of the parts

record Placed (o : Option Raise) (at d : ℕ) : Type 0 where
  x : Raise
  is : o ≡ some x
  place : at ≡ length (bytes_of x.kept)
  top : d ≡ x.top

placed : (o : Option Raise) (at d : ℕ) → Some (at, d) ≡ place_of o → Placed o at d
placed none at d e = let z : ◌≡◌ {A = ℕ} 0 1 = cc in absurd (omega arith)
placed (some x) at d e =
    let p : (at, d) ≡ (length (bytes_of x.kept), x.top) = cc in
    record { x = x; is = refl; place = ap (λ (q : ℕ × ℕ). q.0) p; top = ap (λ (q : ℕ × ℕ). q.1) p }

unplaced : (o : Option Raise) → None ≡ place_of o → o ≡ none
unplaced none e = refl
unplaced (some x) e = let z : ◌≡◌ {A = ℕ} 0 1 = cc in absurd (omega arith)

-- the first len bytes of old are the characters cs, of which x is what the search finds
module _ (f : ℕ → Option ℕ) (rs : Raises f) (old : List ℕ) (len : ℕ) (room : len < length old) (cs : List ℕ) (b : bytes_of cs ≡ take len old)
    (x : Raise) (is : rise f cs ≡ some x) where
  space : length (bytes_of x.kept) + length (encode x.top) ≤ length old
  space =
      let size : length (bytes_of cs) ≡ len = ap length b ∙ length-take-le len old (omega arith) in
      let g = rise_room f rs cs x is in
      omega arith

  top : x.top < 0x110000
  top = scalar_top x.top (rise_scalar f rs cs x is)

  -- what stands before the raised character stays
  front : take (length (bytes_of x.kept)) old ≡ bytes_of x.kept
  front =
      let t = rise_front f cs x is in
      let e : take len old ≡ bytes_of x.kept ++ bytes_of t.0 = sym b ∙ ap bytes_of t.1 ∙ bytes_append x.kept t.0 in
      let l = ap length e ∙ length-append (bytes_of x.kept) (bytes_of t.0) in
      let n = length-take-le len old (omega arith) in
      sym (take-take (length (bytes_of x.kept)) len old (omega arith)) ∙ ap (take (length (bytes_of x.kept))) e
      ∙ take-append_seam (bytes_of x.kept) (bytes_of t.0)

  whole : sets old (length (bytes_of x.kept)) (encode x.top) ≡ written (bytes_of (x.kept ++ x.top ∷ [])) old
  whole = sets-eq (encode x.top) old (length (bytes_of x.kept)) space ∙ rw (last_bytes x.kept x.top, length-append, front)

  length_whole : length (bytes_of (x.kept ++ x.top ∷ [])) ≡ length (bytes_of x.kept) + length (encode x.top)
  length_whole = rw (last_bytes x.kept x.top, length-append)

-- the search found a character to raise
module _ (f : ℕ → Option ℕ) (rs : Raises f) (old : List ℕ) (len at d : ℕ) (room : len < length old) (u : Utf8 (take len old))
    (e : Some (at, d) ≡ place_of (rise f (chars_of (take len old)))) where
  -- it can be stored
  pub fits : (at + length (encode d) ≤ length old) × (d < 0x110000)
  fits = let p = placed _ at d e in go p.x p.is p.place p.top
    where
      go : (x : Raise) → rise f (chars_of (take len old)) ≡ some x → at ≡ length (bytes_of x.kept) → d ≡ x.top
          → (at + length (encode d) ≤ length old) × (d < 0x110000)
      go x is g h =
          let b = (bytes_chars (take len old) u).1 in
          rw (g, h) (space f rs old len room (chars_of (take len old)) b x is, top f rs old len room (chars_of (take len old)) b x is)

  -- and once its bytes bs are, the front is the increment
  pub raised_bytes : (bs new : List ℕ) (n : ℕ) → bs ≡ encode d → n ≡ at + length bs → new ≡ sets old at bs → Outcome (incremented f (take len old)) old new (Some n)
  unfolding incremented
  raised_bytes bs new n y end out = let p = placed _ at d e in go p.x p.is p.place p.top
    where
      go : (x : Raise) → rise f (chars_of (take len old)) ≡ some x → at ≡ length (bytes_of x.kept) → d ≡ x.top
          → Outcome (incremented f (take len old)) old new (Some n)
      go x is g h =
          let b = (bytes_chars (take len old) u).1 in
          rw (increment_rise f (chars_of (take len old)), is)
          (record {
            end = ap Some (end ∙ rw (y, g, h, length_whole f rs old len room (chars_of (take len old)) b x is));
            out = out ∙ rw (y, g, h) (whole f rs old len room (chars_of (take len old)) b x is);
          })

-- the search found none: nothing is changed
pub unraised_bytes : (f : ℕ → Option ℕ) (old bs : List ℕ) → None ≡ place_of (rise f (chars_of bs)) → Outcome (incremented f bs) old old None
unfolding incremented
unraised_bytes f old bs e = rw (increment_rise f (chars_of bs), unplaced (rise f (chars_of bs)) e) (record { end = refl; out = refl })
