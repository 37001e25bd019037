-- Growing by the members that are left is growing by all. Assumes nothing.
use Rattle.std.proofs.Common.{◌+◌, ◌<◌, ◌≤◌, rules}
use Rattle.words.specs.Word.{words_of}
use Rattle.leaves.proofs.Laws.{rest_next, rest_none, rest_all, going_start, going_room, going_next, going_end}
use Rattle.leaves.proofs.list_members.Goals as goal

pub loop-i-init : goal.loop-i-init
loop-i-init c =
    let m = c.args.m in
    let r = c.args.r.now in
    going_start _ _ _ _ (rest_all r.schema.now r.pool.now (words_of r.words.now) m.negated m.column m.flips m.count (m.at + 1)) c.requires.1

pub list_turned-end-requires : goal.list_turned-end-requires
list_turned-end-requires c =
    let m = c.args.m in
    let r = c.args.r.now in
    let h : c.loop-i.i < m.count = search rules in
    rw (c.list_operator-o.ensures, c.literal_of-l.ensures, c.word_or_zero.ensures)
    (going_room _ _ _ _ _ _ _ _ (rest_next r.schema.now r.pool.now (words_of r.words.now) m.negated m.column m.flips m.count (m.at + 1) _ h) c.loop-i.invariant)

pub loop-i-preserved : goal.loop-i-preserved
loop-i-preserved c =
    let m = c.args.m in
    let r = c.args.r.now in
    let h : c.loop-i.i < m.count = search rules in
    let g = rw (c.list_operator-o.ensures, c.literal_of-l.ensures, c.word_or_zero.ensures) at c.list_turned-end.ensures in
    going_next _ _ _ _ _ _ _ _ (rest_next r.schema.now r.pool.now (words_of r.words.now) m.negated m.column m.flips m.count (m.at + 1) _ h) c.loop-i.invariant _ _ g

pub returns : goal.returns
returns c =
    let m = c.args.m in
    let r = c.args.r.now in
    let h : m.count ≤ c.loop-i.i = search rules in
    going_end _ _ _ _ _ _ (rest_none r.schema.now r.pool.now (words_of r.words.now) m.negated m.column m.flips m.count (m.at + 1) _ h) c.loop-i.invariant
