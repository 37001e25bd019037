-- What suits as a text lies inside the pool. Assumes nothing.
use Rattle.std.proofs.Common.{◌∙◌, sym}
use Rattle.checking.proofs.Laws.{text_inside}
use Rattle.checking.proofs.suitable.Goals as goal

pub range_bytes-requires : goal.range_bytes-requires
range_bytes-requires c =
    rw (c.offset_of.ensures, c.length_of.ensures) (text_inside c.args.pool.now c.args.kind c.args.w (sym c.suits.ensures ∙ c.if-not-suits.false) (sym c.type_of.ensures ∙ c.if-type_of-ne-TEXT.false))
