-- The prefix stands at the front of its buffer, so LIKE's form is over it and the upper bound. Assumes nothing.
use Rattle.std.specs.Prelude.{◌≡◌, refl, List, ℕ, ◌≤◌, false, length, take}
use Rattle.std.proofs.Common.{arith}
use Rattle.limits.specs.Limits.{max_literal_bytes}
use Rattle.words.specs.Stores.{sets_front, take_written}
use Rattle.text.specs.Pattern.{prefix_of}
use Rattle.text.specs.Upper.{prefix_length}
use Rattle.text.specs.Wrote.{Wrote}
use Rattle.patterns.proofs.write_between.Goals as goal

front : (p old new : List ℕ) (n : ℕ) → length p ≤ max_literal_bytes → length old ≡ max_literal_bytes → Wrote (prefix_of false p) 0 old new n
    → take n new ≡ prefix_of false p
front p old new n k h w =
    let e : n ≡ length (prefix_of false p) = omega (arith, w.end) in
    let l : length (prefix_of false p) ≤ length old = omega (arith, prefix_length p) in
    rw (e, w.out, sets_front old (prefix_of false p) l) (take_written (prefix_of false p) old)

pub slice_bounds-write_like-end : goal.slice_bounds-write_like-end
slice_bounds-write_like-end c =
    rw (front c.args.pattern.now _ _ _ c.requires.1 refl c.write_prefix-n.ensures) (omega (arith, c.write_prefix-n.ensures.end))

pub write_like-requires : goal.write_like-requires
write_like-requires c =
    let p = c.args.pattern.now in
    let e = front p _ _ _ c.requires.1 refl c.write_prefix-n.ensures in
    (c.requires.0, rw e (omega (arith, prefix_length p, c.requires.1)), c.requires.2, rw e c.requires.3)

pub returns : goal.returns
returns c =
    rw (← front c.args.pattern.now _ _ _ c.requires.1 refl c.write_prefix-n.ensures) c.write_like.ensures
