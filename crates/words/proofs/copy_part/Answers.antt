-- After j turns the first j bytes of the part are stored. Assumes nothing.
use Rattle.std.proofs.Common.{arith}
use Rattle.std.proofs.Math.ListN.{length-set}
use Rattle.words.proofs.Laws.{copy_more}
use Rattle.words.proofs.copy_part.Goals as goal

pub loop-j-preserved : goal.loop-j-preserved
loop-j-preserved c =
    let a = c.args in
    (rw c.loop-j.invariant.0 (copy_more a.out.now a.to a.from.now a.at c.loop-j.j (omega arith)), simp length-set c.loop-j.invariant.1)
