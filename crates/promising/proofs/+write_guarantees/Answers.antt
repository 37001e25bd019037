-- What the node gives says what is written: nothing, its word, or what both sides give. Assumes nothing.
use borrow.Author.Rules.{rules}
use mathlib.Core.Path.{refl}
use Rattle.words.specs.Word.{words_of}
use Rattle.predicate.specs.Predicates.{read_zero}
use Rattle.guarantees.specs.Guarantees.{guarantees}
use Rattle.promising.proofs.Laws.{gives}
use Rattle.promising.proofs.Writing.{wrote_none, wrote_one, room_place, room_one, room_first, room_second, wrote_both}
use Rattle.promising.proofs.+write_guarantees.Goals as goal

pub returns-then-depth-eq0 : goal.returns-then-depth-eq0
unfolding guarantees
returns-then-depth-eq0 t c = rw (read_zero _ _ _ _ c.if-depth-eq0.true) (wrote_none _ _ _ _ _ refl refl)

pub guarantee_word-requires : goal.guarantee_word-requires
guarantee_word-requires t c = room_place _ _ _ _ _ c.requires

pub put_word-requires : goal.put_word-requires
put_word-requires t c = room_one _ _ _ _ _ _ c.requires (gives _ _ _ _ c.if-depth-eq0.false _ c.in-Keeps.ensures)

pub write_guarantees-value-requires : goal.write_guarantees-value-requires
write_guarantees-value-requires t c =
    let g = gives c.args.pool.now (words_of c.args.words.now) c.args.depth c.args.at c.if-depth-eq0.false _ c.in-Both.ensures in
    (search rules, room_first _ _ _ _ _ _ c.if-depth-eq0.false (rw g at c.requires))

pub write_guarantees-requires : goal.write_guarantees-requires
write_guarantees-requires t c =
    let g = gives c.args.pool.now (words_of c.args.words.now) c.args.depth c.args.at c.if-depth-eq0.false _ c.in-Both.ensures in
    (search rules, room_second _ _ _ _ _ _ c.if-depth-eq0.false (rw g at c.requires) _ _ c.write_guarantees-value.ensures)

pub returns-in-Nothing : goal.returns-in-Nothing
returns-in-Nothing t c = wrote_none _ _ _ _ _ c.skip.ensures (gives _ _ _ _ c.if-depth-eq0.false _ c.in-Nothing.ensures)

pub returns-in-Keeps : goal.returns-in-Keeps
returns-in-Keeps t c =
    wrote_one _ _ _ _ _ _ _ c.skip-in-Keeps.ensures (gives _ _ _ _ c.if-depth-eq0.false _ c.in-Keeps.ensures) (rw c.guarantee_word.ensures at c.put_word.ensures)

pub returns-in-Both : goal.returns-in-Both
returns-in-Both t c =
    let g = gives c.args.pool.now (words_of c.args.words.now) c.args.depth c.args.at c.if-depth-eq0.false _ c.in-Both.ensures in
    rw g (wrote_both _ _ _ _ _ _ c.if-depth-eq0.false (rw g at c.requires) _ _ c.write_guarantees-value.ensures _ _ c.write_guarantees.ensures)
