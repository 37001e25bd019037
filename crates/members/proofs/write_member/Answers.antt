-- Nothing is written of what turning leaves unhandled. Assumes nothing.
use Rattle.members.proofs.Laws.{unhandled_opens, ran_none}
use Rattle.members.proofs.write_member.Goals as goal

pub returns-in_default : goal.returns-in_default
returns-in_default c =
    let m = c.args.m in
    let t = rw (c.type_in-kind.ensures, c.list_operator-o.ensures) at c.turn.ensures in
    let e = unhandled_opens c.args.r.now.schema.now c.args.r.now.pool.now m.negated m.column m.flips c.args.l _ t c.in_default.is in
    rw e (ran_none _)
