-- When a container is dropped: by its table's worth, or by an answer. Assumes nothing.
use Rattle.std.specs.Prelude.{Bool, true, false, cond, ◌||◌, List, [], ◌∷◌, ℕ, ◌+◌, get_or, eqb}
use Rattle.kleene.specs.declared.Truth.{Truth}
use Rattle.kleene.specs.declared.Truth.TheVariants.{False, Unknown, True}
use Rattle.guarantees.specs.Guarantees.{answer_drops, not_in_field}

abbrev pub is_false : Truth → Bool
is_false False = true
is_false Unknown = false
is_false True = false

-- some guarantee's answer drops; the first one's stands at a place of the answers, no answers read as 0
unfoldable pub answers_drop : List ℕ → List ℕ → ℕ → Bool
answers_drop answers [] at = false
answers_drop answers (g ∷ gs) at = answer_drops (eqb (not_in_field g) 1) (get_or answers at 0) || answers_drop answers gs (at + 1)

-- 0 drops, 1 keeps
abbrev pub flag_of : Truth → Bool → ℕ
flag_of t dropped = cond (is_false t || dropped) 0 1
