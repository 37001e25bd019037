-- The values of counts. Assumes nothing.
use Rattle.std.specs.Prelude.{◌≡◌, ℕ, Option, None, Some, ◌-◌, ◌^◌, ◌≤◌, pos, negsuc}
use Rattle.std.proofs.Common.{ap, ◌∙◌, arith}
use Rattle.literals.specs.Signed.{signed, signed_high}
use Rattle.literals.specs.Literals.{Value, null, int}

-- an absent count is null, another an integer that is not negative
abbrev pub count_value : Option ℕ → Value
count_value None = null
count_value (Some n) = int (pos n)

-- from 2 ^ 63 on this is not what two's complement says
pub counts_unsigned : (n : ℕ) → 2 ^ 63 ≤ n → count_value (Some n) ≡ int (signed n) → ⊥
counts_unsigned n h e =
    let k : int (pos n) ≡ int (negsuc (2 ^ 64 - 1 - n)) = e ∙ ap int (signed_high n h) in
    let z : ◌≡◌ {A = ℕ} 0 1 = cc in
    omega arith
