-- The search's answer says what is stored where. Assumes nothing.
use Rattle.std.proofs.Common.{◌≡◌, length, arith, ap, ◌∙◌}
use Rattle.text.specs.Utf8.{encode}
use Rattle.text.specs.Upper.{rule}
use Rattle.text.proofs.Std.{encode_is, to_std}
use Rattle.text.proofs.Upper.{rule_raises}
use Rattle.increment.proofs.Whole.{fits, raised_bytes, unraised_bytes}
use Rattle.increment.proofs.increment_utf8.Goals as goal

pub from_utf8_unchecked-old-requires : goal.from_utf8_unchecked-old-requires
from_utf8_unchecked-old-requires c = to_std _ c.requires.1

pub returns-in_err-at : goal.returns-in_err-at
returns-in_err-at c =
    rw c.from_residual.ensures (unraised_bytes rule c.args.text.now _ (rw c.from_utf8_unchecked-old.ensures at c.in_err-at.ensures))

pub put_bytes-end-requires : goal.put_bytes-end-requires
put_bytes-end-requires c =
    let y : c.as_bytes-raised.result.now ≡ encode c.in_ok-at.c = c.as_bytes-raised.ensures.value ∙ c.encode_utf8.ensures.value ∙ encode_is c.in_ok-at.c in
    let f = fits rule rule_raises c.args.text.now c.args.len _ _ c.requires.0 c.requires.1 (rw c.from_utf8_unchecked-old.ensures at c.in_ok-at.ensures) in
    (omega (arith, ap length y, f.0), omega arith)

pub returns : goal.returns
returns c =
    let y : c.as_bytes-raised.result.now ≡ encode c.in_ok-at.c = c.as_bytes-raised.ensures.value ∙ c.encode_utf8.ensures.value ∙ encode_is c.in_ok-at.c in
    let w = c.put_bytes-end.ensures in
    raised_bytes rule rule_raises c.args.text.now c.args.len _ _ c.requires.0 c.requires.1 (rw c.from_utf8_unchecked-old.ensures at c.in_ok-at.ensures) _ _ _ y w.end
    w.out
