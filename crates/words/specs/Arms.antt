-- Past the arms of a match on a number: each arm that was not taken moves the number up by one. Assumes nothing.
use Rattle.std.specs.Prelude.{◌≡◌, ℕ, suc, ◌≤◌}
use Rattle.std.proofs.Common.{sym}
use Rattle.std.proofs.Math.Arith.{lt_of_le-ne}

-- one arm more that was not taken
pub next : {k n : ℕ} → k ≤ n → (n ≡ k → ⊥) → suc k ≤ n
next h f = lt_of_le-ne h (λ e. f (sym e))
