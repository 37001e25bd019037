-- One word at the spot. Assumes nothing.
use Rattle.std.proofs.Common.{refl, ◌∙◌}
use native.Mathlib.Omega.{arith}
use Rattle.words.specs.WordLaws.{bytes_one}
use Rattle.writing.proofs.Writer.put.Goals as goal

pub put_word-requires : goal.put_word-requires
put_word-requires c =
    omega arith

pub returns : goal.returns
returns c =
    record {
      head = record { answer = refl; table = c.put_word.ensures ∙ rw bytes_one };
      pool = refl;
      keeps = record { table = refl; pool = refl; list = refl };
    }
