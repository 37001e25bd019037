-- The rule for one character raises it, to an allowed character of at most one byte more. Assumes nothing.
use Rattle.std.proofs.Common.{arith}
use Rattle.text.specs.Increment.{Raises, allowed_scalar, grow, raised, raised_is}

pub raises_one : Raises raised
raises_one =
    record {
      above = λ c d e. let h = (raised_is c d e).0 in omega arith;
      scalar = λ c d e. allowed_scalar d (raised_is c d e).1;
      grows = λ c d e. let h = (raised_is c d e).0 in grow c d (λ k. omega arith) (λ k. omega arith);
    }
