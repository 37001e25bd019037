-- The upper bound has at most one byte more than the pattern. Assumes nothing.
use Rattle.std.proofs.Common.{arith}
use Rattle.text.specs.Upper.{prefix_length}
use Rattle.textcases.proofs.show_upper.Goals as goal

pub upper_bound-end-requires : goal.upper_bound-end-requires
upper_bound-end-requires g c =
    let h = prefix_length c.args.pattern.now in
    (c.requires.1, omega arith)
