-- The table's entry at two places is what AND means. Assumes nothing.
use Rattle.kleene.specs.Tables.{and_rule}
use Rattle.kleene.proofs.Truth.and.Goals as goal

pub returns : goal.returns
returns c =
    rw (c.place-i.ensures.0, c.place-j.ensures.0) (and_rule c.args.self c.args.b)
