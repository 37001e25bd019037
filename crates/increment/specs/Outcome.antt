-- What the search for a character to raise answers, and what a function leaves that puts a text into a buffer. Assumes nothing.
use Rattle.std.specs.Prelude.{◌≡◌, refl, List, ℕ, ◌+◌, ◌≤◌, length, take, Option, Some, None}
use Rattle.std.proofs.Common.{sym, ◌∙◌, arith}
use Rattle.std.proofs.Math.Option as maybe
use Rattle.std.proofs.Math.Option.{some, none}
use Rattle.words.specs.Stores.{written, take_written}
use Rattle.text.specs.Utf8.{Utf8, bytes_of}
use Rattle.text.specs.Increment.{Raise}
use Rattle.text.specs.Upper.{upper_of}
use Rattle.text.proofs.Upper.{upper_length}

-- a character raised
abbrev pub next_of : maybe.Option ℕ → Option ℕ
next_of none = None
next_of (some d) = Some d

-- the place of the raised character's first byte, and the character
abbrev pub place_of : maybe.Option Raise → Option (ℕ × ℕ)
place_of none = None
place_of (some x) = Some (length (bytes_of x.kept), x.top)

-- where a text at the front of a buffer ends
abbrev pub end_of : maybe.Option (List ℕ) → Option ℕ
end_of none = None
end_of (some u) = Some (length u)

-- the buffer with the text at its front; as it was, where there is none
abbrev pub over : maybe.Option (List ℕ) → List ℕ → List ℕ
over none old = old
over (some u) old = written u old

-- what a function leaves that puts the text o, if there is one, at the front of the buffer old: its answer and the new buffer
pub record Outcome (o : maybe.Option (List ℕ)) (old new : List ℕ) (r : Option ℕ) : Type 0 where
  pub end : r ≡ end_of o
  pub out : new ≡ over o old

-- there is one such outcome
pub outcome_unique : {o : maybe.Option (List ℕ)} {old new new' : List ℕ} {r r' : Option ℕ} → Outcome o old new r → Outcome o old new' r' → (r ≡ r') × (new ≡ new')
outcome_unique a b = (a.end ∙ sym b.end, a.out ∙ sym b.out)

-- what its answer says of the text
pub until_some : (o : maybe.Option (List ℕ)) (n : ℕ) → Some n ≡ end_of o → (u : List ℕ) × (o ≡ some u) × (n ≡ length u)
until_some none n e = let z : ◌≡◌ {A = ℕ} 0 1 = cc in absurd (omega arith)
until_some (some u) n e = (u, refl, cc)

pub absent_none : (o : maybe.Option (List ℕ)) → None ≡ end_of o → o ≡ none
absent_none none e = refl
absent_none (some u) e = let z : ◌≡◌ {A = ℕ} 0 1 = cc in absurd (omega arith)

-- the text stands at the front
pub outcome_front : {u old new : List ℕ} {r : Option ℕ} → Outcome (some u) old new r → take (length u) new ≡ u
outcome_front {u} {old} o = rw o.out (take_written u old)

-- an upper bound has at most one byte more than its pattern
pub upper_end : (p : List ℕ) (n : ℕ) → Utf8 p → Some n ≡ end_of (upper_of p) → n ≤ length p + 1
upper_end p n w e = let t = until_some (upper_of p) n e in rw t.2 (upper_length p t.0 w t.1)
