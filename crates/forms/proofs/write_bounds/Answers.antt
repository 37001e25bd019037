-- A join's word, then its sides. Assumes nothing.
use Rattle.writing.specs.WriterLaws.{keeps_then, few_kept, room_left_by, room_right_by, both_by}
use Rattle.forms.proofs.write_bounds.Goals as goal

pub write_against-requires : goal.write_against-requires
write_against-requires c =
    (few_kept _ _ c.put_join.ensures.keeps c.requires.0, c.requires.1, room_left_by _ _ _ _ c.requires.2 _ c.put_join.ensures)

pub write_against-requires-2 : goal.write_against-requires-2
write_against-requires-2 c =
    (few_kept _ _ (keeps_then _ _ _ c.put_join.ensures.keeps c.write_against.ensures.keeps) c.requires.0, c.requires.1, room_right_by _ _ _ _ c.requires.2 _ c.put_join.ensures _ c.write_against.ensures)

pub returns : goal.returns
returns c =
    both_by _ _ _ _ _ _ _ c.put_join.ensures c.write_against.ensures c.write_against-2.ensures
