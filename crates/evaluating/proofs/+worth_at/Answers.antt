-- One step, with what its children are worth. Assumes nothing.
use Rattle.std.proofs.Common.{rules, sym, ◌∙◌}
use Rattle.words.specs.Word.{words_of}
use Rattle.pruning.specs.TableReading.{table_node_at}
use Rattle.evaluating.specs.Steps.{evaluable_deep, evaluable_inside, leaf_short, ready_asks, leaf_worth_lem, both_left, both_right, both_worth, turned_child, turned_worth}
use Rattle.evaluating.proofs.Steps.{both_settled}
use Rattle.evaluating.proofs.+worth_at.Goals as goal

pub overflow_sub-left : goal.overflow_sub-left
overflow_sub-left t c = evaluable_deep _ _ _ _ c.requires

pub overflow_add-child : goal.overflow_add-child
overflow_add-child t c = let h = evaluable_inside _ _ _ _ c.requires in search rules

pub step_at-requires : goal.step_at-requires
step_at-requires t c =
    (evaluable_inside _ _ _ _ c.requires, ready_asks c.args.c.now.cells.now (words_of c.args.c.now.row.now) _ _ _ _ c.requires.list c.requires.ready)

pub overflow_add-result : goal.overflow_add-result
overflow_add-result t c =
    let i = evaluable_inside _ _ _ _ c.requires in
    let s = leaf_short c.args.c.now.cells.now (words_of c.args.c.now.row.now) c.args.c.now.pool.now (table_node_at c.args.c.now.pool.now (words_of c.args.c.now.table.now) c.args.at) _ _ (sym c.in-Leaf.is ∙ c.step_at.ensures) in
    search rules

pub worth_at-l-requires : goal.worth_at-l-requires
worth_at-l-requires t c =
    let e = sym c.in-Both.is ∙ c.step_at.ensures in
    let h = evaluable_deep _ _ _ _ c.requires in
    (search rules, record { list = c.requires.list; ready = both_left _ _ _ _ _ _ c.requires.list c.requires.ready _ e })

pub end_of-requires : goal.end_of-requires
end_of-requires t c =
    let e = sym c.in-Both.is ∙ c.step_at.ensures in
    let l = c.requires.list in
    let r = c.requires.ready in
    let left = both_left _ _ _ _ _ _ l r _ e in
    record { list = l; pool = c.args.c.now.pool.now; ready = both_right _ _ _ _ _ _ l r _ e c.worth_at-l.result (c.worth_at-l.ensures l left) }

pub worth_at-r-requires : goal.worth_at-r-requires
worth_at-r-requires t c =
    let e = sym c.in-Both.is ∙ c.step_at.ensures in
    let h = evaluable_deep _ _ _ _ c.requires in
    let l = c.requires.list in
    let r = c.requires.ready in
    let left = both_left _ _ _ _ _ _ l r _ e in
    (search rules, record { list = l; ready = both_right _ _ _ _ _ _ l r _ e c.worth_at-l.result (c.worth_at-l.ensures l left) })

pub worth_at-v-requires : goal.worth_at-v-requires
worth_at-v-requires t c =
    let e = sym c.in-Turned.is ∙ c.step_at.ensures in
    let h = evaluable_deep _ _ _ _ c.requires in
    (search rules, record { list = c.requires.list; ready = turned_child _ _ _ _ _ _ c.requires.list c.requires.ready e })

pub returns-then-settles : goal.returns-then-settles
returns-then-settles t c =
    let e = sym c.in-Both.is ∙ c.step_at.ensures in
    λ l r.
    let x = c.worth_at-l.ensures l (both_left _ _ _ _ _ _ l r _ e) in
    both_settled _ _ _ _ _ _ l r _ e c.worth_at-l.result c.end_of.result x (sym c.settles.ensures ∙ c.if-settles.true) (c.end_of.ensures l c.args.c.now.pool.now (both_right _ _ _ _ _ _ l r _ e c.worth_at-l.result x))

pub returns-in-Leaf : goal.returns-in-Leaf
returns-in-Leaf t c =
    λ l r. leaf_worth_lem _ _ _ _ _ _ l r _ _ (sym c.in-Leaf.is ∙ c.step_at.ensures)

pub returns-else-settles : goal.returns-else-settles
returns-else-settles t c =
    let e = sym c.in-Both.is ∙ c.step_at.ensures in
    let first = c.worth_at-l in
    λ l r.
    let x = first.ensures l (both_left _ _ _ _ _ _ l r _ e) in
    let y = c.worth_at-r.ensures l (both_right _ _ _ _ _ _ l r _ e first.result x) in
    rw c.join.ensures (both_worth _ _ _ _ _ _ l r _ e first.result c.worth_at-r.result x y)

pub returns-in-Turned : goal.returns-in-Turned
returns-in-Turned t c =
    let e = sym c.in-Turned.is ∙ c.step_at.ensures in
    λ l r.
    let child = turned_child _ _ _ _ _ _ l r e in
    rw c.not.ensures (turned_worth _ _ _ _ _ _ l r e c.worth_at-v.result (c.worth_at-v.ensures l child))
