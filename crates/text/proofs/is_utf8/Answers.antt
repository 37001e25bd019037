-- std's UTF-8 is ours. Assumes nothing.
use Rattle.std.proofs.Common.{◌∙◌}
use Rattle.text.proofs.Std.{valid_is}
use Rattle.text.proofs.is_utf8.Goals as goal

pub returns : goal.returns
returns c = c.is_ok.ensures.value ∙ valid_is _ c.args.s.now c.from_utf8.result c.from_utf8.ensures.cases
