-- What a writer into a lent buffer leaves there, and its answer. Assumes nothing.
use Rattle.std.specs.Prelude.{◌≡◌, List, ℕ, ◌+◌, length}
use Rattle.std.proofs.Common.{sym, ◌∙◌}
use Rattle.std.proofs.lemmas.List.Edits.{sets}

-- the bytes vs stand from index to on, all others are as before; the answer r is where they end
pub record Wrote (vs : List ℕ) (to : ℕ) (old new : List ℕ) (r : ℕ) : Type 0 where
  pub end : r ≡ to + length vs
  pub out : new ≡ sets old to vs

-- there is one such outcome
pub wrote_unique : {vs : List ℕ} {to : ℕ} {old new new' : List ℕ} {r r' : ℕ} → Wrote vs to old new r → Wrote vs to old new' r' → (r ≡ r') × (new ≡ new')
wrote_unique a b = (a.end ∙ sym b.end, a.out ∙ sym b.out)
