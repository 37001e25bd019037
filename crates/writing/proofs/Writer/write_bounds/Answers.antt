-- A join's word, then its sides. Assumes nothing.
use Rattle.std.proofs.Common.{[], ◌∷◌}
use native.Mathlib.Omega.{arith}
use Rattle.statistics.specs.declared.Statistic.TheVariants.{Least, Greatest}
use Rattle.table.specs.Tables.{holds}
use Rattle.table.specs.Nests.{join_word}
use Rattle.writing.specs.WriterLaws.{few_kept, both_by, wide_head_by, wide_wrote_by}
use Rattle.writing.proofs.Writer.write_bounds.Goals as goal

pub write_holds-requires : goal.write_holds-requires
write_holds-requires c =
    (few_kept _ _ c.put_join.ensures.keeps c.requires.0, wide_head_by 1 (join_word c.args.j ∷ []) _ _ (omega (arith, c.requires.1)) c.put_join.ensures)

pub write_holds-requires-2 : goal.write_holds-requires-2
write_holds-requires-2 c =
    let w = wide_head_by 2 (join_word c.args.j ∷ []) _ _ c.requires.1 c.put_join.ensures in
    (few_kept _ _ c.write_holds.ensures.keeps (few_kept _ _ c.put_join.ensures.keeps c.requires.0), wide_wrote_by 1 (holds (Least c.args.c)) _ _ w c.write_holds.ensures)

pub returns : goal.returns
returns c =
    both_by c.args.j (holds (Least c.args.c)) (holds (Greatest c.args.c)) _ _ _ _ c.put_join.ensures c.write_holds.ensures c.write_holds-2.ensures
