-- What is_utf8 accepts is UTF-8. Assumes nothing.
use Rattle.std.proofs.Common.{arith, sym, ◌∙◌}
use Rattle.text.proofs.Valid.{utf8_iff}
use Rattle.textcases.proofs.run.Goals as goal

pub show_upper-requires : goal.show_upper-requires
show_upper-requires g c =
    (omega arith, (utf8_iff c.args.pattern.now).0 (sym c.is_utf8.ensures ∙ c.if-is_utf8.true))
