-- Each case stores its bytes, and a null or a truth value none. Assumes nothing.
use borrow.Author.Rules.{rules}
use mathlib.Core.Path.{refl, sym, ◌∙◌}
use native.Mathlib.Nat.{add-zero}
use mir.Syntax.{w64}
use mir.Val.{SFits}
use mir.Facts.{to_z-of_z}
use Rattle.words.specs.WordLaws.{length_word}
use Rattle.writing.proofs.Laws.{range_length, no_bytes}
use Rattle.writing.proofs.put_bytes.Goals as goal

pub put_word-requires : goal.put_word-requires
put_word-requires c =
    rw (c.in-Int.is, length_word) at c.requires.1

pub overflow_add-result : goal.overflow_add-result
overflow_add-result c =
    let h = rw (c.in-Int.is, length_word) at c.requires.1 in
    search rules

pub copy_part-requires : goal.copy_part-requires
copy_part-requires c =
    let h = rw c.in-Text.is at c.requires.0.inside in
    (h, rw (c.in-Text.is, range_length c.args.input.now c.in-Text.r h) at c.requires.1)

pub overflow_add-result-in-Text : goal.overflow_add-result-in-Text
overflow_add-result-in-Text c =
    let i = rw c.in-Text.is at c.requires.0.inside in
    let h = rw (c.in-Text.is, range_length c.args.input.now c.in-Text.r i) at c.requires.1 in
    search rules

pub returns-in-Int : goal.returns-in-Int
returns-in-Int c =
    let x : SFits w64 c.in-Int.x = search rules in
    rw c.in-Int.is (rw length_word, c.put_word.ensures ∙ rw (c.to_word.ensures, to_z-of_z x))

pub returns-in-Text : goal.returns-in-Text
returns-in-Text c =
    let i = rw c.in-Text.is at c.requires.0.inside in
    rw c.in-Text.is (rw (range_length c.args.input.now c.in-Text.r i), c.copy_part.ensures)

pub returns-in-Null : goal.returns-in-Null
returns-in-Null c = rw (no_bytes c.args.input.now c.args.l c.in-Null.is) (sym (add-zero c.args.off), refl)
