-- Two words, one behind the other. Assumes nothing.
use Rattle.std.proofs.Common.{[], ◌∷◌}
use native.Mathlib.Omega.{arith}
use Rattle.kleene.specs.declared.Joining.TheVariants.{And}
use Rattle.table.specs.Nests.{join_word}
use Rattle.writing.specs.WriterLaws.{few_kept, wide_head_by}
use Rattle.writing.proofs.Laws.{wrap_by}
use Rattle.writing.proofs.Writer.wrap_null_count_check_expr.Goals as goal

pub column_has_non_nulls_expr-requires : goal.column_has_non_nulls_expr-requires
column_has_non_nulls_expr-requires c =
    (few_kept _ _ c.put_join.ensures.keeps c.requires.0, wide_head_by 1 (join_word And ∷ []) _ _ (omega (arith, c.requires.1)) c.put_join.ensures)

pub returns : goal.returns
returns c = wrap_by c.args.c _ _ _ c.put_join.ensures c.column_has_non_nulls_expr.ensures
