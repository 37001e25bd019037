-- By the number of literals: none, over the limit, or within it. Assumes nothing.
use Rattle.std.proofs.Common.{sym, ap, ◌∙◌, arith}
use Rattle.table.specs.Tables.{known}
use Rattle.knowing.specs.Knowns.{list_none, list_over, list_within}
use Rattle.knowing.proofs.known_list.Goals as goal
use Rattle.knowing.proofs.known_list.Goals.{then-m-eq0-via-then-m-eq0, then-m-eq0-via-else-m-eq0+then-r-from}

pub returns-then-m-eq0 : goal.returns-then-m-eq0
returns-then-m-eq0 c =
    elim c.then-m-eq0.branch [
      | then-m-eq0-via-then-m-eq0 w ↦ sym (ap known (list_none _ _ _ _ _ _ _ _ _ w.if-m-eq0.true))
      | then-m-eq0-via-else-m-eq0+then-r-from w ↦ sym (ap known (list_over _ _ _ _ _ _ _ _ _ (omega arith)))
    ]

pub returns : goal.returns
returns c =
    c.known_members.ensures ∙ sym (ap known (list_within _ _ _ _ _ _ _ _ _ (omega arith)))
