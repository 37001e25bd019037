-- The prefix, then its increment where a wildcard is left. Assumes nothing.
use Rattle.std.proofs.Common.{◌≡◌, ◌≢◌, length, rules, sym, ◌∙◌, ap}
use Rattle.increment.proofs.Bound.{ready, whole, risen}
use Rattle.increment.proofs.upper_bound.Goals as goal

pub returns-then-is_empty : goal.returns-then-is_empty
returns-then-is_empty c =
    let z : length c.split_constant_prefix.result.now ≡ 0 = search rules in
    whole c.args.pattern.now c.args.out.now _ c.write_prefix-n.result c.requires.1 c.write_prefix-n.ensures (sym (ap length c.split_constant_prefix.ensures) ∙ z)

pub increment_utf8-requires : goal.increment_utf8-requires
increment_utf8-requires c =
    ready c.args.pattern.now c.args.out.now _ c.write_prefix-n.result c.requires.1 c.write_prefix-n.ensures c.requires.0

pub returns : goal.returns
returns c =
    let z : length c.split_constant_prefix.result.now ≢ 0 = search rules in
    risen c.args.pattern.now c.args.out.now _ c.write_prefix-n.result c.requires.1 c.write_prefix-n.ensures (λ e. z (ap length c.split_constant_prefix.ensures ∙ e)) _ _
    c.increment_utf8.ensures
