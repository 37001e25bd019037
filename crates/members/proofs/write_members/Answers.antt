-- Writing the members that are left is writing all. Assumes nothing.
use Prim.Native.Nat.{◌+◌}
use Rattle.words.specs.Word.{words_of}
use Rattle.writing.specs.WritingLaws.{literal_fits}
use Rattle.writing.specs.WriterLaws.{few_kept}
use Rattle.members.proofs.Laws.{rest_next, rest_none, going_room, going_next, going_end}
use Rattle.members.proofs.write_members.Goals as goal

pub write_member-requires : goal.write_member-requires
write_member-requires c =
    let r = c.args.r.now in
    let m = c.args.m in
    let l = c.literal_of-l.ensures in
    let next = rest_next r.schema.now r.pool.now (words_of r.words.now) m.negated m.column m.flips m.count (m.at + 1) _ (rw c.from-i-end.ensures at c.loop-i-test.true) in
    (few_kept _ _ c.loop-i.invariant.keeps c.requires.0, rw l (literal_fits _ _), rw (l, c.word_or_zero.ensures) (going_room _ _ _ _ _ _ next c.loop-i.invariant))

pub loop-i-preserved : goal.loop-i-preserved
loop-i-preserved c =
    let r = c.args.r.now in
    let m = c.args.m in
    let next = rest_next r.schema.now r.pool.now (words_of r.words.now) m.negated m.column m.flips m.count (m.at + 1) _ (rw c.from-i-end.ensures at c.loop-i-test.true) in
    going_next _ _ _ _ _ _ next c.loop-i.invariant _ (rw (c.literal_of-l.ensures, c.word_or_zero.ensures) at c.write_member.ensures)

pub returns : goal.returns
returns c =
    let r = c.args.r.now in
    let m = c.args.m in
    going_end _ _ _ _ (rest_none r.schema.now r.pool.now (words_of r.words.now) m.negated m.column m.flips m.count (m.at + 1) _ (rw c.from-i-end.ensures at c.loop-i-test.false)) c.loop-i.invariant
