-- A node's word, then its literal. Assumes nothing.
use native.Mathlib.Omega.{arith}
use Rattle.operators.specs.Operators.{code_below}
use Rattle.literals.specs.Literals.{value_of}
use Rattle.listing.specs.Listing.{list_of}
use Rattle.writing.specs.WriterLaws.{keeps_then}
use Rattle.writing.proofs.Laws.{against_word, against_room, wrote_against}
use Rattle.writing.proofs.Writer.write_against.Goals as goal

pub put_node-requires : goal.put_node-requires
put_node-requires c =
    let b = code_below c.args.o in
    let e = c.code.ensures in
    let w = c.args.self.now in
    (omega arith, against_word c.args.o c.args.x c.args.first (value_of c.args.input.now c.args.l) w.at w.at w.table.now w.table.now w.pool.now c.requires.2)

pub put_literal-requires : goal.put_literal-requires
put_literal-requires c =
    let k = c.clip-k.ensures in
    let h = rw (c.place_of-place.ensures, c.code.ensures, c.of.ensures) at c.put_node.ensures in
    let a = against_room c.args.o c.args.x c.args.first (value_of c.args.input.now c.args.l) _ _ _ _ _ c.requires.2 (list_of c.args.self.now.list.now) h.head in
    (k.ready, a.0, rw (k.same, h.pool) a.1, a.2)

pub returns : goal.returns
returns c =
    let h = rw (c.place_of-place.ensures, c.code.ensures, c.of.ensures) at c.put_node.ensures in
    let p = rw (c.clip-k.ensures.same, h.pool) at c.put_literal.ensures.put in
    record {
      wrote = wrote_against c.args.o c.args.x c.args.first (value_of c.args.input.now c.args.l) _ _ _ _ _ c.requires.2 (list_of c.args.self.now.list.now) h.head _ _ _ p;
      keeps = keeps_then _ _ _ h.keeps c.put_literal.ensures.keeps;
    }
