-- Where the node was read, the predicate is the node's: a join of both sides, or what it comes to by itself. Assumes nothing.
use borrow.Author.Rules.{rules}
use mathlib.Core.Path.{sym, ◌∙◌}
use mathlib.Core.Logic.{inl, inr}
use Prim.Native.Nat.{◌-◌, ◌+◌}
use Rattle.words.specs.Word.{words_of}
use Rattle.literals.specs.Literals.{value_of}
use Rattle.predicate.specs.Predicates.{predicate_at, read_zero, read_node}
use Rattle.walking.specs.Places.{near_first, near_second}
use Rattle.table.specs.Rewriting.{rewritten}
use Rattle.knowing.specs.Knowns.{known_like_lem}
use Rattle.folding.proofs.Laws.{part_leaf, part_both, column_open}
use Rattle.folding.proofs.+fold.Goals as goal
use Rattle.folding.proofs.+fold.Goals.{in-Constant, in-Not, in-TruthColumn, in-IsNull, in-Comparison, in-List, in-Like}

pub returns-then-depth-eq0 : goal.returns-then-depth-eq0
unfolding rewritten
returns-then-depth-eq0 t c = rw (read_zero _ _ _ _ c.if-depth-eq0.true)

pub fold-left-requires : goal.fold-left-requires
fold-left-requires t c =
    let fine = rw (read_node _ _ _ _ c.if-depth-eq0.false _ c.in-Join.ensures) at c.requires.1 in
    (search rules, (near_first c.args.r.now.pool.now _ _ _ tt c.in-Join.ensures, fine.0))

pub fold-right-requires : goal.fold-right-requires
fold-right-requires t c =
    let fine = rw (read_node _ _ _ _ c.if-depth-eq0.false _ c.in-Join.ensures) at c.requires.1 in
    (search rules, rw c.fold-left.ensures (near_second c.args.r.now.pool.now _ _ _ tt c.in-Join.ensures _, fine.1))

pub returns-in-Join : goal.returns-in-Join
returns-in-Join t c =
    let r = c.args.r.now in
    let f = predicate_at r.pool.now (words_of r.words.now) (c.args.depth - 1) in
    rw (read_node _ _ _ _ c.if-depth-eq0.false _ c.in-Join.ensures)
    (part_both r.limit r.schema.now c.in-Join.j f (c.args.at + 1) _ _ _ c.fold-left.ensures c.fold-right.ensures c.join_known-value.ensures)

pub known_like-value-requires : goal.known_like-value-requires
known_like-value-requires t c = (rw (read_node _ _ _ _ c.if-depth-eq0.false _ c.in-Like.ensures) at c.requires.1).1

pub returns : goal.returns
unfolding rewritten
returns t c =
    let r = c.args.r.now in
    let ws = words_of r.words.now in
    let f = predicate_at r.pool.now ws (c.args.depth - 1) in
    rw c.skip.ensures
    (part_leaf r.limit r.schema.now r.pool.now ws c.args.depth c.args.at c.if-depth-eq0.false c.node_at.result c.node_at.ensures c.match-node_at.value
    (elim c.match-node_at.branch [
      | in-Constant w ↦ rw w.in-Constant.is (w.value-is ∙ w.known_constant-value.ensures)
      | in-Not w ↦ rw w.in-Not.is (w.value-is ∙ w.known_not-value.ensures)
      | in-TruthColumn w ↦
          w.value-is
          ∙ column_open r.limit r.schema.now f r.pool.now ws c.args.at _
          (elim w.in-TruthColumn.is [ inl e ↦ inl e | inr e ↦ inr (inr e) ])
      | in-IsNull w ↦ w.value-is ∙ column_open r.limit r.schema.now f r.pool.now ws c.args.at _ (inr (inl (_, w.in-IsNull.is)))
      | in-Comparison w ↦ rw w.in-Comparison.is (w.value-is ∙ w.known_comparison-value.ensures r.pool.now)
      | in-List w ↦ rw w.in-List.is (w.value-is ∙ w.known_list-value.ensures)
      | in-Like w ↦
          rw w.in-Like.is
          (w.value-is ∙ w.known_like-value.ensures ∙ sym (known_like_lem w.in-Like.b w.in-Like.field-1 (value_of r.pool.now w.in-Like.l)))
    ]))
