-- The text is raised as what is left of it is. Assumes nothing.
use Rattle.std.proofs.Common.{◌≡◌}
use Rattle.std.specs.Str.{IsUtf8}
use Rattle.std.specs.Str.Iter.{char_indices_rest, char_indices_offset}
use Rattle.std.specs.Iterator.Adapters.{rev_source}
use Rattle.text.specs.Increment.{rise}
use Rattle.text.specs.Chars.{chars_of}
use Rattle.text.specs.Upper.{rule}
use Rattle.increment.proofs.find_rise.Given as goal

abbrev pub invariant-loop-at : goal.invariant-loop-at
invariant-loop-at l =
    let left = rev_source l.at-iterator in
    (char_indices_offset left ≡ 0) × IsUtf8 (char_indices_rest left) × (rise rule (chars_of l.s) ≡ rise rule (chars_of (char_indices_rest left)))
