-- The text is raised as what is left of it is. Assumes nothing.
use Rattle.std.proofs.Common.{rules, arith, sym, ◌∙◌, ◌≡◌, length}
use Rattle.std.specs.Char.{IsScalar}
use Rattle.std.specs.Str.Iter.{char_indices_rest}
use Rattle.std.specs.Iterator.Adapters.{rev_source}
use Rattle.text.specs.Upper.{rule}
use Rattle.increment.proofs.Last.{before, found, onward, finished}
use Rattle.increment.proofs.find_rise.Goals as goal

pub returns-in-Some-next_char : goal.returns-in-Some-next_char
returns-in-Some-next_char c =
    let l = c.loop-at in
    let s = c.in-Some.ensures.steps in
    let k : IsScalar c.in-Some.c = search rules in
    let e : c.in-Some.at ≡ length (char_indices_rest (rev_source c.next.new.self)) = omega (arith, s.1.1, l.invariant.0) in
    rw e (found _ _ _ l.invariant.1 k s.1.0 rule c.args.s.now l.invariant.2 _ (sym c.in-Some-next_char.is ∙ c.next_char.ensures))

pub loop-at-preserved : goal.loop-at-preserved
loop-at-preserved c =
    let l = c.loop-at in
    let s = c.in-Some.ensures.steps in
    let k : IsScalar c.in-Some.c = search rules in (
      s.0 ∙ l.invariant.0,
      before _ _ _ l.invariant.1 k s.1.0,
      onward _ _ _ l.invariant.1 k s.1.0 rule c.args.s.now l.invariant.2 (sym c.in_default.is ∙ c.next_char.ensures),
    )

pub returns : goal.returns
returns c = finished rule c.args.s.now _ c.loop-at.invariant.2 c.in-None.ensures.steps.1.0
