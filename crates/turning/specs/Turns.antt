-- What turning answers: the definition's value of it over every pool, and that a literal's text stays in its pool and fits a word.
-- Assumes nothing.
use Rattle.std.specs.Prelude.{◌≡◌, List, ℕ, Option, Some, None}
use Rattle.literals.specs.Literals.{Value, value_of, LiteralFits, LiteralInside}
use Rattle.literals.specs.declared.Literal.{Literal}
use Rattle.table.specs.Comparisons.{Turned, asks, stays, negated_truth}
use Rattle.turning.specs.declared.Against.{Against}

-- an answer over a pool
abbrev pub turned_of : List ℕ → Option Against → Turned
turned_of pool (Some a) = asks a.operator (value_of pool a.literal)
turned_of pool None = stays

abbrev pub TurnedInside : List ℕ → Option Against → Type 0
TurnedInside pool (Some a) = LiteralInside pool a.literal
TurnedInside pool None = Unit {0}

abbrev pub TurnedFits : Option Against → Type 0
TurnedFits (Some a) = LiteralFits a.literal
TurnedFits None = Unit {0}

-- r is f of the literal l, whatever the pool
pub record Turns (f : Value → Turned) (l : Literal) (r : Option Against) : Type 0 where
  pub value : (pool : List ℕ) → turned_of pool r ≡ f (value_of pool l)
  pub inside : (pool : List ℕ) → LiteralInside pool l → TurnedInside pool r
  pub fits : LiteralFits l → TurnedFits r

-- r is l with its truth value negated
pub record Negates (l r : Literal) : Type 0 where
  pub value : (pool : List ℕ) → value_of pool r ≡ negated_truth (value_of pool l)
  pub inside : (pool : List ℕ) → LiteralInside pool l → LiteralInside pool r
  pub fits : LiteralFits l → LiteralFits r
