-- Where the node was read, the predicate is the node's; then each arm. A join is what its sides fold to. Assumes nothing.
use borrow.Author.Rules.{rules}
use mathlib.Core.Path.{◌≡◌}
use mathlib.Core.Bool.{not}
use Rattle.words.specs.Word.{words_of}
use Rattle.predicate.specs.Predicates.{predicate_at, read_zero, read_node}
use Rattle.walking.specs.Places.{near_first, near_second}
use Rattle.table.specs.Tables.{always}
use Rattle.table.specs.Rewriting.{constant_table, rewritten}
use Rattle.writing.specs.WriterLaws.{few_kept, both_by, room_word_by, room_left_by, room_right_by}
use Rattle.emitting.proofs.Laws.{constant_other, read_fits, join_is}
use Rattle.emitting.proofs.+emit.Goals as goal
use Rattle.emitting.proofs.+emit.Goals.{emit-in-False, emit-in_default}

pub emit-write_always-requires : goal.emit-write_always-requires
unfolding rewritten
emit-write_always-requires t c = (rw (read_zero _ _ _ _ c.if-depth-eq0.true) at c.requires.3).words

pub emit-returns-then-depth-eq0 : goal.emit-returns-then-depth-eq0
unfolding rewritten
emit-returns-then-depth-eq0 t c = rw (read_zero _ _ _ _ c.if-depth-eq0.true) c.write_always.ensures

pub emit-write_always-requires-in-Constant : goal.emit-write_always-requires-in-Constant
unfolding rewritten
emit-write_always-requires-in-Constant t c =
    let e : constant_table c.in-Constant.t ≡ always (not c.match-matches.matches) =
    elim c.match-matches.branch [ emit-in-False w ↦ rw (w.matches-is, w.in-False.is) | emit-in_default w ↦ rw w.matches-is (constant_other _ w.in_default.not-False) ] in
    (rw (read_node _ _ _ _ c.if-depth-eq0.false _ c.in-Constant.ensures, e) at c.requires.3).words

pub emit-returns-after-matches : goal.emit-returns-after-matches
unfolding rewritten
emit-returns-after-matches t c =
    let e : constant_table c.in-Constant.t ≡ always (not c.match-matches.matches) =
    elim c.match-matches.branch [ emit-in-False w ↦ rw (w.matches-is, w.in-False.is) | emit-in_default w ↦ rw w.matches-is (constant_other _ w.in_default.not-False) ] in
    rw (read_node _ _ _ _ c.if-depth-eq0.false _ c.in-Constant.ensures, e) c.write_always-in-Constant.ensures

pub emit-emit_join-requires : goal.emit-emit_join-requires
unfolding rewritten
emit-emit_join-requires t c =
    let p = c.args.r.now.pool.now in
    let fine = rw (read_node _ _ _ _ c.if-depth-eq0.false _ c.in-Join.ensures) at c.requires.1 in
    let room = rw (read_node _ _ _ _ c.if-depth-eq0.false _ c.in-Join.ensures) at c.requires.3 in
    (search rules, (near_first p _ _ _ tt c.in-Join.ensures, near_second p _ _ _ tt c.in-Join.ensures _, fine.0, fine.1, c.requires.2, room))

pub emit-returns-in-Join : goal.emit-returns-in-Join
unfolding rewritten
emit-returns-in-Join t c = rw (read_node _ _ _ _ c.if-depth-eq0.false _ c.in-Join.ensures) c.emit_join.ensures

pub emit-write_not-requires : goal.emit-write_not-requires
unfolding rewritten
emit-write_not-requires t c = (c.requires.2, (rw (read_node _ _ _ _ c.if-depth-eq0.false _ c.in-Not.ensures) at c.requires.3).words)

pub emit-returns-in-Not : goal.emit-returns-in-Not
unfolding rewritten
emit-returns-in-Not t c = rw (read_node _ _ _ _ c.if-depth-eq0.false _ c.in-Not.ensures) c.write_not.ensures

pub emit-write_column-requires : goal.emit-write_column-requires
unfolding rewritten
emit-write_column-requires t c = (c.requires.2, (rw (read_node _ _ _ _ c.if-depth-eq0.false _ c.in-TruthColumn.ensures) at c.requires.3).words)

pub emit-returns-in-TruthColumn : goal.emit-returns-in-TruthColumn
unfolding rewritten
emit-returns-in-TruthColumn t c = rw (read_node _ _ _ _ c.if-depth-eq0.false _ c.in-TruthColumn.ensures) c.write_column.ensures

pub emit-column_has_nulls_expr-requires : goal.emit-column_has_nulls_expr-requires
unfolding rewritten
emit-column_has_nulls_expr-requires t c = (c.requires.2, (rw (read_node _ _ _ _ c.if-depth-eq0.false _ c.in-IsNull.ensures) at c.requires.3).words)

pub emit-returns-in-IsNull : goal.emit-returns-in-IsNull
unfolding rewritten
emit-returns-in-IsNull t c = rw (read_node _ _ _ _ c.if-depth-eq0.false _ c.in-IsNull.ensures) c.column_has_nulls_expr.ensures

pub emit-column_has_non_nulls_expr-requires : goal.emit-column_has_non_nulls_expr-requires
unfolding rewritten
emit-column_has_non_nulls_expr-requires t c = (c.requires.2, (rw (read_node _ _ _ _ c.if-depth-eq0.false _ c.in-IsNotNull.ensures) at c.requires.3).words)

pub emit-returns-in-IsNotNull : goal.emit-returns-in-IsNotNull
unfolding rewritten
emit-returns-in-IsNotNull t c = rw (read_node _ _ _ _ c.if-depth-eq0.false _ c.in-IsNotNull.ensures) c.column_has_non_nulls_expr.ensures

pub emit-write_compared-requires : goal.emit-write_compared-requires
unfolding rewritten
emit-write_compared-requires t c =
    (c.requires.2, read_fits _ (words_of c.args.r.now.words.now) c.args.at _ c.in-Comparison.ensures, rw (read_node _ _ _ _ c.if-depth-eq0.false _ c.in-Comparison.ensures) at c.requires.3)

pub emit-returns-in-Comparison : goal.emit-returns-in-Comparison
unfolding rewritten
emit-returns-in-Comparison t c = rw (read_node _ _ _ _ c.if-depth-eq0.false _ c.in-Comparison.ensures) c.write_compared.ensures

pub emit-write_list-requires : goal.emit-write_list-requires
unfolding rewritten
emit-write_list-requires t c = (c.requires.2, c.requires.0, rw (read_node _ _ _ _ c.if-depth-eq0.false _ c.in-List.ensures) at c.requires.3)

pub emit-returns-in-List : goal.emit-returns-in-List
unfolding rewritten
emit-returns-in-List t c = rw (read_node _ _ _ _ c.if-depth-eq0.false _ c.in-List.ensures) c.write_list.ensures

pub emit-write_matching-requires : goal.emit-write_matching-requires
unfolding rewritten
emit-write_matching-requires t c =
    let fine = rw (read_node _ _ _ _ c.if-depth-eq0.false _ c.in-Like.ensures) at c.requires.1 in
    let room = rw (read_node _ _ _ _ c.if-depth-eq0.false _ c.in-Like.ensures) at c.requires.3 in
    (c.requires.2, fine.1, room)

pub emit-returns-in-Like : goal.emit-returns-in-Like
unfolding rewritten
emit-returns-in-Like t c = rw (read_node _ _ _ _ c.if-depth-eq0.false _ c.in-Like.ensures) c.write_matching.ensures

pub emit_join-emit-requires-in-Both : goal.emit_join-emit-requires-in-Both
emit_join-emit-requires-in-Both t c =
    let r = c.args.r.now in
    let e = join_is r.limit r.schema.now (predicate_at r.pool.now (words_of r.words.now) c.args.depth) c.args.at c.args.j _ _ _ c.fold-left.ensures c.fold-right.ensures c.in-Both.ensures in
    (search rules, (c.requires.0, c.requires.2, few_kept _ _ c.put_join.ensures.keeps c.requires.4, room_left_by c.args.j _ _ _ (rw e at c.requires.5) _ c.put_join.ensures))

pub emit_join-emit-requires-in-Both-2 : goal.emit_join-emit-requires-in-Both-2
emit_join-emit-requires-in-Both-2 t c =
    let r = c.args.r.now in
    let e = join_is r.limit r.schema.now (predicate_at r.pool.now (words_of r.words.now) c.args.depth) c.args.at c.args.j _ _ _ c.fold-left.ensures c.fold-right.ensures c.in-Both.ensures in
    let few = few_kept _ _ c.emit-in-Both.ensures.keeps (few_kept _ _ c.put_join.ensures.keeps c.requires.4) in
    (search rules, (rw c.fold-left.ensures c.requires.1, rw c.fold-left.ensures c.requires.3, few, room_right_by c.args.j _ _ _ (rw e at c.requires.5) _ c.put_join.ensures _ c.emit-in-Both.ensures))

pub emit_join-returns-in-Both : goal.emit_join-returns-in-Both
emit_join-returns-in-Both t c =
    let r = c.args.r.now in
    let e = join_is r.limit r.schema.now (predicate_at r.pool.now (words_of r.words.now) c.args.depth) c.args.at c.args.j _ _ _ c.fold-left.ensures c.fold-right.ensures c.in-Both.ensures in
    rw e (both_by c.args.j _ _ _ _ _ _ c.put_join.ensures c.emit-in-Both.ensures c.emit-in-Both-2.ensures)
