-- The joins, then the members. Assumes nothing.
use Prim.Native.Nat.{◌+◌}
use Rattle.words.specs.Word.{words_of}
use Rattle.table.specs.Rewriting.{list_joining}
use Rattle.writing.specs.WriterLaws.{few_kept}
use Rattle.members.specs.Members.{open_at}
use Rattle.members.proofs.Laws.{nest_wide_by, nest_rooms_by, nest_by}
use Rattle.members.proofs.write_nest.Goals as goal

pub put_joins-requires : goal.put_joins-requires
put_joins-requires c =
    let r = c.args.r.now in
    let m = c.args.m in
    nest_wide_by (list_joining m.negated) _ (open_at r.schema.now r.pool.now (words_of r.words.now) m.negated m.column m.flips m.count (m.at + 1)) c.requires.2 c.requires.3 c.args.w.now c.requires.4

pub write_members-requires : goal.write_members-requires
write_members-requires c =
    let h = rw c.list_joining.ensures at c.put_joins.ensures in
    (few_kept _ _ h.keeps c.requires.0, c.requires.1, nest_rooms_by (list_joining c.args.m.negated) _ _ c.requires.2 c.requires.3 _ _ h c.requires.4)

pub returns : goal.returns
returns c =
    let h = rw c.list_joining.ensures at c.put_joins.ensures in
    nest_by (list_joining c.args.m.negated) _ _ c.requires.2 c.requires.3 _ _ h _ c.write_members.ensures
