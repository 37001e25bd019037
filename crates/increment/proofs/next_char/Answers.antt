-- The rule by its test. Assumes nothing.
use Rattle.std.proofs.Common.{sym, ◌∙◌}
use Rattle.increment.proofs.Rule.{next_to, next_none}
use Rattle.increment.proofs.next_char.Goals as goal

pub returns-then-is_valid_unicode : goal.returns-then-is_valid_unicode
returns-then-is_valid_unicode c =
    let e = c.from-d.ensures in
    next_to c.args.c _ (rw e at (sym c.is_valid_unicode.ensures ∙ c.if-is_valid_unicode.true)) (rw e at c.from_u32.ensures.value)

pub returns-else-is_valid_unicode : goal.returns-else-is_valid_unicode
returns-else-is_valid_unicode c =
    let e = c.from-d.ensures in
    next_none c.args.c (rw e at (sym c.is_valid_unicode.ensures ∙ c.if-is_valid_unicode.false))
