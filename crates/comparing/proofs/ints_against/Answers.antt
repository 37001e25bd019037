-- The order of the integers is asked. Assumes nothing.
use mir.Syntax.{w64}
use mir.ValLaws.{to_z-of_z}
use mathlib.Core.Path.{◌∙◌, ap}
use Rattle.kleene.specs.Truths.{truth_of}
use Rattle.comparing.specs.Comparing.{ints_after, ints_first}
use Rattle.comparing.proofs.ints_against.Goals.{then-first, else-first}
use Rattle.comparing.proofs.ints_against.Goals as goal

pub returns : goal.returns
returns c =
    let held = c.truth_of.ensures ∙ ap truth_of c.holds.ensures in
    elim c.if-first.branch [
      | then-first w ↦
          rw w.if-first.true (held ∙ ints_first c.args.o c.args.a c.args.b c.if-first.r c.requires (w.r-is ∙ w.compare_ints-r.ensures ∙ rw (to_z-of_z w64 c.args.b c.ranges.b, to_z-of_z w64 c.args.a c.ranges.a)))
      | else-first w ↦
          rw w.if-first.false (held ∙ ints_after c.args.o c.args.a c.args.b c.if-first.r c.requires (w.r-is ∙ w.compare_ints-r-else-first.ensures ∙ rw (to_z-of_z w64 c.args.a c.ranges.a, to_z-of_z w64 c.args.b c.ranges.b)))
    ]
