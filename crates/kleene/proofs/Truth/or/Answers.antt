-- The table's entry at two places is what OR means. Assumes nothing.
use Rattle.kleene.specs.Tables.{or_rule}
use Rattle.kleene.proofs.Truth.or.Goals as goal

pub returns : goal.returns
returns c =
    rw (c.place-i.ensures.0, c.place-j.ensures.0) (or_rule c.args.self c.args.b)
