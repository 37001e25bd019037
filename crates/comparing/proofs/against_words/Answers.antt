-- Two integers at once, or any two literals. Assumes nothing.
use mathlib.Core.Path.{sym, ◌∙◌}
use Prim.Native.Nat.{◌/◌, ◌^◌}
use mir.Syntax.{w64}
use mir.ValLaws.{to_z-of_z}
use borrow.Author.Rules.{sfits_of}
use borrow.Author.Tests.{eqb-true}
use Rattle.comparing.specs.Comparing.{integer_top, integer_value}
use Rattle.comparing.proofs.against_words.Goals as goal

pub returns-then-is_integer-2 : goal.returns-then-is_integer-2
returns-then-is_integer-2 c =
    let x = eqb-true (c.args.cell / 2 ^ 24) integer_top (sym c.is_integer.ensures ∙ c.if-is_integer.true) in
    let y = eqb-true (c.args.literal / 2 ^ 24) integer_top (sym c.is_integer-then-is_integer.ensures ∙ c.if-is_integer-2.true) in
    rw (integer_value c.args.cells.now c.args.cell x, integer_value c.args.literals.now c.args.literal y, ← c.integer_in.ensures, ← c.integer_in-then-is_integer-2.ensures) (c.ints_against.ensures ∙ rw (to_z-of_z w64 c.integer_in.result (sfits_of c.integer_in.type_inv), to_z-of_z w64 c.integer_in-then-is_integer-2.result (sfits_of c.integer_in-then-is_integer-2.type_inv)))

pub returns : goal.returns
returns c =
    rw (← c.literal_of.ensures, ← c.literal_of-2.ensures) c.against.ensures
