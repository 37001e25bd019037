-- A NOT's word, then the column's join. Assumes nothing.
use Rattle.std.proofs.Common.{[], ◌∷◌}
use Rattle.kleene.specs.declared.Joining.TheVariants.{And}
use Rattle.statistics.specs.declared.Statistic.TheVariants.{Least, Greatest}
use Rattle.table.specs.Tables.{both, holds}
use Rattle.writing.specs.WritingLaws.{not_word}
use Rattle.writing.specs.WriterLaws.{few_kept, negation_by, wide_head_by}
use Rattle.writing.proofs.Writer.write_not_column.Goals as goal

pub write_bounds-requires : goal.write_bounds-requires
write_bounds-requires c =
    (few_kept _ _ c.put_not.ensures.keeps c.requires.0, wide_head_by 3 (not_word ∷ []) _ _ c.requires.1 c.put_not.ensures)

pub returns : goal.returns
returns c =
    negation_by (both And (holds (Least c.args.c)) (holds (Greatest c.args.c))) _ _ _ c.put_not.ensures c.write_bounds.ensures
