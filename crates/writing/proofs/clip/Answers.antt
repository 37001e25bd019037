-- Only a text is cut. Assumes nothing.
use Rattle.writing.proofs.Laws.{clip_text, clip_other}
use Rattle.writing.proofs.clip.Goals as goal

pub returns-in-Text : goal.returns-in-Text
returns-in-Text c =
    rw c.in-Text.is (clip_text c.args.input.now c.in-Text.r _ (rw c.in-Text.is at c.requires) c.clip.ensures)

pub returns-in_default : goal.returns-in_default
returns-in_default c = clip_other c.args.input.now c.args.l c.in_default.not-Text
