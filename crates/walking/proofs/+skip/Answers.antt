-- Where the node was read, the predicate is the node's; then each arm. Assumes nothing.
use Rattle.std.proofs.Common.{rules, arith}
use Rattle.std.proofs.lemmas.Grind.{common_steps}
use Rattle.predicate.specs.Predicates.{read_node}
use Rattle.walking.proofs.+skip.Goals as goal

pub returns-in-Constant : goal.returns-in-Constant
returns-in-Constant t c = rw (read_node _ _ _ _ c.if-depth-eq0.false _ c.node_at.ensures) (search rules)

pub returns-in-Join : goal.returns-in-Join
returns-in-Join t c = rw (read_node _ _ _ _ c.if-depth-eq0.false _ c.node_at.ensures) (search rules)

pub returns-in-Not : goal.returns-in-Not
returns-in-Not t c = rw (read_node _ _ _ _ c.if-depth-eq0.false _ c.node_at.ensures) (search rules)

pub returns-in-Comparison : goal.returns-in-Comparison
returns-in-Comparison t c = rw (read_node _ _ _ _ c.if-depth-eq0.false _ c.node_at.ensures) (search rules)

pub returns-in-List : goal.returns-in-List
returns-in-List t c = rw (read_node _ _ _ _ c.if-depth-eq0.false _ c.node_at.ensures) (search rules)

pub returns-in-Like : goal.returns-in-Like
returns-in-Like t c = rw (read_node _ _ _ _ c.if-depth-eq0.false _ c.node_at.ensures) (search rules)
