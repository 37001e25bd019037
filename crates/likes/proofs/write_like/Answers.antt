-- The blanks test in front, then the form. Assumes nothing.
use Rattle.writing.specs.WriterLaws.{few_kept, room_wrapped_by, wrapped_by}
use Rattle.likes.proofs.write_like.Goals as goal

pub build_like_match-requires : goal.build_like_match-requires
build_like_match-requires c =
    (few_kept _ _ c.wrap_null_count_check_expr.ensures.keeps c.requires.0, c.requires.1, c.requires.2, room_wrapped_by _ _ _ _ c.requires.3 c.wrap_null_count_check_expr.ensures)

pub returns : goal.returns
returns c =
    wrapped_by _ _ _ _ _ c.wrap_null_count_check_expr.ensures c.build_like_match.ensures
