-- The row's entry at a place is what NOT means. Assumes nothing.
use Rattle.kleene.specs.Tables.{not_rule}
use Rattle.kleene.proofs.Truth.not.Goals as goal

pub returns : goal.returns
returns c =
    rw c.place-i.ensures.0 (not_rule c.args.self)
