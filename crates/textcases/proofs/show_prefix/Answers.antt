-- The prefix is no longer than the pattern. Assumes nothing.
use Rattle.std.proofs.Common.{arith, sym}
use lib.Seq.{length-take-le}
use Rattle.text.specs.Upper.{prefix_length}
use Rattle.textcases.proofs.show_prefix.Goals as goal

pub write_prefix-n-requires : goal.write_prefix-n-requires
write_prefix-n-requires g c =
    let h = prefix_length c.args.pattern.now in
    omega arith

pub slice_bounds-out-end : goal.slice_bounds-out-end
slice_bounds-out-end g c =
    let h = prefix_length c.args.pattern.now in
    let k = c.write_prefix-n.auto.out in
    let e = c.write_prefix-n.ensures.end in
    omega arith

pub slice_bounds-show-end : goal.slice_bounds-show-end
slice_bounds-show-end g c =
    let h = prefix_length c.args.pattern.now in
    let k = c.write_prefix-n.auto.out in
    let e = c.write_prefix-n.ensures.end in
    sym (length-take-le _ _ (omega arith))
