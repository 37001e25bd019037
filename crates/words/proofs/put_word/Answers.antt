-- A word's bytes are those read high byte first. Assumes nothing.
use Rattle.std.proofs.Common.{arith, ◌∙◌, ◌+◌, ◌-◌}
use Rattle.std.proofs.lemmas.Slice.{put_mid-paste}
use Rattle.words.specs.Word.{word_bytes}
use Rattle.words.proofs.Laws.{paste_sets}
use Rattle.words.proofs.put_word.Goals as goal

pub returns : goal.returns
unfolding word_bytes
returns c =
    let a = c.args in
    put_mid-paste a.at (a.at + 8 - a.at) a.out.now c.copy_from_slice.new.self (word_bytes a.w) 8 (c.copy_from_slice.ensures.after ∙ c.to_be_bytes.ensures) (omega arith) (omega arith) ∙ paste_sets a.out.now (word_bytes a.w) a.at 8 (omega arith) c.requires
