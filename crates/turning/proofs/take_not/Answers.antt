-- Only = and ≠ are handled. Assumes nothing.
use Rattle.turning.proofs.Laws.{flip_negates}
use Rattle.turning.proofs.take_not.Goals as goal

pub returns-in-Equal : goal.returns-in-Equal
returns-in-Equal c = flip_negates c.args.a.operator c.args.a.literal c.negate_truth.result c.in-Equal.is c.negate_truth.ensures
