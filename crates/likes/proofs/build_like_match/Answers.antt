-- A join's word, then its sides, each against a whole text. Assumes nothing.
use Rattle.kleene.specs.declared.Joining.TheVariants.{And}
use Rattle.likes.proofs.Laws.{whole_is, whole_fits}
use Rattle.writing.specs.WriterLaws.{keeps_then, few_kept, room_left_by, room_right_by, both_by}
use Rattle.likes.proofs.build_like_match.Goals as goal

pub write_against-requires : goal.write_against-requires
write_against-requires c =
    let u = c.whole-u.ensures in
    (few_kept _ _ c.put_join.ensures.keeps c.requires.0, whole_fits c.args.upper.now _ u c.requires.2, rw (whole_is _ _ u) (room_left_by And _ _ _ c.requires.3 _ c.put_join.ensures))

pub write_against-requires-2 : goal.write_against-requires-2
write_against-requires-2 c =
    let p = c.whole-p.ensures in
    let a = rw (whole_is _ _ c.whole-u.ensures) at c.write_against.ensures in
    let k = keeps_then _ _ _ c.put_join.ensures.keeps c.write_against.ensures.keeps in
    (few_kept _ _ k c.requires.0, whole_fits c.args.prefix.now _ p c.requires.1, rw (whole_is _ _ p) (room_right_by And _ _ _ c.requires.3 _ c.put_join.ensures _ a))

pub returns : goal.returns
returns c =
    let a = rw (whole_is _ _ c.whole-u.ensures) at c.write_against.ensures in
    let b = rw (whole_is _ _ c.whole-p.ensures) at c.write_against-2.ensures in
    both_by And _ _ _ _ _ _ c.put_join.ensures a b
