-- When rows fit an answer. Assumes nothing.
use Rattle.std.specs.Prelude.{◌≡◌, Bool, true, false, ◌||◌, List, [], ◌∷◌, ℕ}
use Rattle.literals.specs.Literals.{Value}
use Rattle.orders.specs.Values.{is_null, alike}
use Rattle.predicate.specs.Meaning.{Row, value_in}
use Rattle.predicate.specs.Rows.{In}
use Rattle.guarantees.specs.Guarantees.{Guarantee}

abbrev pub among : Value → List Value → Bool
among v [] = false
among v (k ∷ ks) = alike v k || among v ks

-- 1: every non-blank value is in the guarantee's set; 2: none is; 0 claims nothing
pub record FitAnswer (g : Guarantee) (answer : ℕ) (rows : List Row) : Type 0 where
  pub all : answer ≡ 1 → (r : Row) → In r rows → is_null (value_in r g.of) ≡ false → among (value_in r g.of) g.set ≡ true
  pub none : answer ≡ 2 → (r : Row) → In r rows → is_null (value_in r g.of) ≡ false → among (value_in r g.of) g.set ≡ false
