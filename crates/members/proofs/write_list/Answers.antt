-- By the number of literals, and of those that stay. Assumes nothing.
use borrow.Author.Rules.{rules}
use mathlib.Core.Path.{◌≡◌}
use mathlib.Core.Logic.{◌⊎◌, inl, inr}
use Prim.Native.Nat.{◌+◌, ◌<◌}
use Rattle.words.specs.Word.{words_of}
use Rattle.members.proofs.Laws.{list_outside, list_form, list_unhandled, form_some}
use Rattle.members.proofs.write_list.Goals as goal
use Rattle.members.proofs.write_list.Goals.{then-n-eq0-via-then-n-eq0, then-n-eq0-via-else-n-eq0+then-r-n}

pub write_always-requires : goal.write_always-requires
write_always-requires c =
    let r = c.args.r.now in
    let m = c.args.m in
    let out : (m.count ≡ 0) ⊎ (r.limit < m.count) =
    elim c.then-n-eq0.branch [
      | then-n-eq0-via-then-n-eq0 w ↦ inl (rw c.from-n.ensures at w.if-n-eq0.true)
      | then-n-eq0-via-else-n-eq0+then-r-n w ↦ inr (rw c.from-n.ensures at w.if-r-n.true)
    ] in
    (rw (list_outside r.limit r.schema.now r.pool.now (words_of r.words.now) m.negated m.column m.flips m.count (m.at + 1) out) at c.requires.2).words

pub returns-then-n-eq0 : goal.returns-then-n-eq0
returns-then-n-eq0 c =
    let r = c.args.r.now in
    let m = c.args.m in
    let out : (m.count ≡ 0) ⊎ (r.limit < m.count) =
    elim c.then-n-eq0.branch [
      | then-n-eq0-via-then-n-eq0 w ↦ inl (rw c.from-n.ensures at w.if-n-eq0.true)
      | then-n-eq0-via-else-n-eq0+then-r-n w ↦ inr (rw c.from-n.ensures at w.if-r-n.true)
    ] in
    rw (list_outside r.limit r.schema.now r.pool.now (words_of r.words.now) m.negated m.column m.flips m.count (m.at + 1) out) c.write_always.ensures

pub write_nest-requires : goal.write_nest-requires
write_nest-requires c =
    let r = c.args.r.now in
    let m = c.args.m in
    let e = list_form r.limit r.schema.now r.pool.now (words_of r.words.now) m.negated m.column m.flips m.count (m.at + 1) _ c.from-n.result c.from-n.ensures c.if-n-eq0.false c.if-r-n.false c.count_open-staying.ensures c.if-has_form.ensures in
    (c.requires.0, c.requires.1, c.count_open-staying.ensures, form_some m.negated _ _ c.if-has_form.ensures, rw e at c.requires.2)

pub returns-then-has_form : goal.returns-then-has_form
returns-then-has_form c =
    let r = c.args.r.now in
    let m = c.args.m in
    let e = list_form r.limit r.schema.now r.pool.now (words_of r.words.now) m.negated m.column m.flips m.count (m.at + 1) _ c.from-n.result c.from-n.ensures c.if-n-eq0.false c.if-r-n.false c.count_open-staying.ensures c.if-has_form.ensures in
    rw e c.write_nest.ensures

pub write_always-requires-else-has_form : goal.write_always-requires-else-has_form
write_always-requires-else-has_form c =
    let r = c.args.r.now in
    let m = c.args.m in
    let e = list_unhandled r.limit r.schema.now r.pool.now (words_of r.words.now) m.negated m.column m.flips m.count (m.at + 1) _ c.from-n.result c.from-n.ensures c.if-n-eq0.false c.if-r-n.false c.count_open-staying.ensures c.if-has_form.ensures in
    (rw e at c.requires.2).words

pub returns-else-has_form : goal.returns-else-has_form
returns-else-has_form c =
    let r = c.args.r.now in
    let m = c.args.m in
    let e = list_unhandled r.limit r.schema.now r.pool.now (words_of r.words.now) m.negated m.column m.flips m.count (m.at + 1) _ c.from-n.result c.from-n.ensures c.if-n-eq0.false c.if-r-n.false c.count_open-staying.ensures c.if-has_form.ensures in
    rw e c.write_always-else-has_form.ensures
