-- What the members come to is what those before i come to, joined with those from i on. Assumes nothing.
use Rattle.std.proofs.Common.{sym, ◌∙◌, arith}
use Rattle.knowing.specs.Knowns.{known_nested, members_next, members_end}
use Rattle.knowing.proofs.known_members.Goals as goal

pub loop-i-init : goal.loop-i-init
loop-i-init c =
    rw c.known_member-k.ensures (known_nested _ _ _ _ _ _ _ _ c.requires.1)

pub loop-i-preserved : goal.loop-i-preserved
loop-i-preserved c =
    rw (c.join_known-k.ensures, c.list_joining.ensures, c.known_member.ensures) (c.loop-i.invariant ∙ members_next _ _ _ _ _ _ _ _ _ _ (omega arith))

pub returns : goal.returns
returns c =
    sym (c.loop-i.invariant ∙ members_end _ _ _ _ _ _ _ _ _ _ (omega arith))
