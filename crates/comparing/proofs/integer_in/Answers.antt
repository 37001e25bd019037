-- The word's integer. Assumes nothing.
use mir.Syntax.{w64}
use mir.ValLaws.{to_z-of_z}
use borrow.Author.Rules.{sfits_of}
use Rattle.comparing.proofs.integer_in.Goals as goal

pub returns : goal.returns
returns c =
    rw (to_z-of_z w64 c.of_word.result (sfits_of c.of_word.type_inv), c.of_word.ensures, c.number_of.ensures)
