-- The blanks test in front, then the form. Assumes nothing.
use Rattle.writing.specs.WriterLaws.{few_kept, room_wrapped_by, wrapped_by}
use Rattle.forms.proofs.write_wrapped.Goals as goal

pub write_bare-requires : goal.write_bare-requires
write_bare-requires c =
    (few_kept _ _ c.wrap_null_count_check_expr.ensures.keeps c.requires.0, c.requires.1, room_wrapped_by _ _ _ _ c.requires.2 c.wrap_null_count_check_expr.ensures)

pub returns : goal.returns
returns c =
    wrapped_by _ _ _ _ _ c.wrap_null_count_check_expr.ensures c.write_bare.ensures
