-- The first byte picks the case. Assumes nothing.
use Rattle.std.proofs.Common.{arith, ◌≡◌, ◌⊎◌}
use Rattle.text.proofs.Laws.{split_end, split_wildcard, split_byte, split_backslash}
use Rattle.text.proofs.split_plain.Goals as goal

pub returns-in_err-first : goal.returns-in_err-first
returns-in_err-first c = rw c.from_residual.ensures (split_end c.args.pattern.now (omega (arith, c.in_err-first.ensures.cases)))

pub returns-in_default : goal.returns-in_default
returns-in_default c = split_byte c.args.pattern.now c.in_ok-first.first c.in_ok-first.rest c.in_ok-first.ensures.cases.0 (omega arith) (omega arith) (omega arith)

pub returns-in-37 : goal.returns-in-37
returns-in-37 c =
    let h : (c.in_ok-first.first.now ≡ 37) ⊎ (c.in_ok-first.first.now ≡ 95) = grind arith in
    split_wildcard c.args.pattern.now _ _ c.in_ok-first.ensures.cases.0 h

pub returns-in-92 : goal.returns-in-92
returns-in-92 c =
    rw c.or.ensures (split_backslash c.args.pattern.now c.in_ok-first.first c.in_ok-first.rest _ c.in_ok-first.ensures.cases.0 c.in-92.is c.split_first-in-92.ensures.cases)
