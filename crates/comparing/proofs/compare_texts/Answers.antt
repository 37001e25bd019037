-- Both texts are lent out of their pools. Assumes nothing.
use Rattle.comparing.proofs.compare_texts.Goals as goal

pub operand_bytes-x-requires : goal.operand_bytes-x-requires
operand_bytes-x-requires c =
    c.clip.ensures.inside

pub operand_bytes-y-requires : goal.operand_bytes-y-requires
operand_bytes-y-requires c =
    c.clip-2.ensures.inside

pub returns : goal.returns
returns c =
    rw (← c.clip.ensures.same, ← c.clip-2.ensures.same, ← c.operand_bytes-x.ensures, ← c.operand_bytes-y.ensures) c.compare_bytes.ensures
