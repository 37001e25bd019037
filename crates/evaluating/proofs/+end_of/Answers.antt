-- By the kind of the word, with the ends of the children. Assumes nothing.
use Rattle.std.proofs.Common.{rules, ◌≡◌, refl, sym, ◌∙◌, ap, get_or, true, Some}
use Rattle.words.specs.Word.{words_of}
use Rattle.table.specs.Encoding.{kind_named}
use Rattle.table.specs.declared.Kind.TheVariants as Kinds
use Rattle.pruning.specs.TableReading.{kind_of}
use Rattle.evaluating.specs.Ends.{skippable_deep, skippable_inside, joins, bare, step_by, word_end, bare_end, first_ready, second_ready, second_end, child_ready, child_end}
use Rattle.evaluating.proofs.+end_of.Goals as goal

pub overflow_sub-left : goal.overflow_sub-left
overflow_sub-left t c = skippable_deep _ _ _ c.requires

pub overflow_add-child : goal.overflow_add-child
overflow_add-child t c = let h = skippable_inside _ _ _ c.requires in search rules

pub node_word-requires : goal.node_word-requires
node_word-requires t c = skippable_inside _ _ _ c.requires

pub overflow_add-result : goal.overflow_add-result
overflow_add-result t c = let h = skippable_inside _ _ _ c.requires in search rules

pub end_of-requires : goal.end_of-requires
end_of-requires t c =
    let a = c.args in
    let s = c.requires in
    let e : c.of_number-kind.result ≡ kind_named (kind_of (get_or (words_of a.table.now) a.at 0)) = rw (← c.node_word.ensures, ← c.kind_of.ensures) c.of_number-kind.ensures in
    let h : joins c.in-Some-And.field-0 ≡ true = search rules in
    let deep = skippable_deep _ _ _ s in
    (search rules, record { list = s.list; pool = s.pool; ready = first_ready _ _ _ _ _ s.ready _ e _ c.in-Some-And.is h })

pub end_of-requires-in-Some-And : goal.end_of-requires-in-Some-And
end_of-requires-in-Some-And t c =
    let a = c.args in
    let s = c.requires in
    let e : c.of_number-kind.result ≡ kind_named (kind_of (get_or (words_of a.table.now) a.at 0)) = rw (← c.node_word.ensures, ← c.kind_of.ensures) c.of_number-kind.ensures in
    let h : joins c.in-Some-And.field-0 ≡ true = search rules in
    let x = c.end_of.ensures s.list s.pool (first_ready _ _ _ _ _ s.ready _ e _ c.in-Some-And.is h) in
    let deep = skippable_deep _ _ _ s in
    (search rules, record { list = s.list; pool = s.pool; ready = second_ready _ _ _ _ _ s.ready _ e _ c.in-Some-And.is h _ x })

pub returns-in-Some-And : goal.returns-in-Some-And
returns-in-Some-And t c =
    let a = c.args in
    let e : c.of_number-kind.result ≡ kind_named (kind_of (get_or (words_of a.table.now) a.at 0)) = rw (← c.node_word.ensures, ← c.kind_of.ensures) c.of_number-kind.ensures in
    let h : joins c.in-Some-And.field-0 ≡ true = search rules in
    λ l p r.
    let x = c.end_of.ensures l p (first_ready _ _ _ _ _ r _ e _ c.in-Some-And.is h) in
    let y = c.end_of-in-Some-And.ensures l p (second_ready _ _ _ _ _ r _ e _ c.in-Some-And.is h _ x) in
    second_end _ _ _ _ _ r _ e _ c.in-Some-And.is h _ _ x y

pub end_of-requires-in-Some-Negation : goal.end_of-requires-in-Some-Negation
end_of-requires-in-Some-Negation t c =
    let a = c.args in
    let s = c.requires in
    let e : c.of_number-kind.result ≡ kind_named (kind_of (get_or (words_of a.table.now) a.at 0)) = rw (← c.node_word.ensures, ← c.kind_of.ensures) c.of_number-kind.ensures in
    let k : c.of_number-kind.result ≡ Some Kinds.Negation = search rules in
    let q = sym (ap (step_by s.pool (words_of a.table.now) a.at) k) in
    let deep = skippable_deep _ _ _ s in
    (search rules, record { list = s.list; pool = s.pool; ready = child_ready _ _ _ _ _ s.ready _ e q })

pub returns-in-Some-Negation : goal.returns-in-Some-Negation
returns-in-Some-Negation t c =
    let a = c.args in
    let e : c.of_number-kind.result ≡ kind_named (kind_of (get_or (words_of a.table.now) a.at 0)) = rw (← c.node_word.ensures, ← c.kind_of.ensures) c.of_number-kind.ensures in
    let k : c.of_number-kind.result ≡ Some Kinds.Negation = search rules in
    λ l p r.
    let q = sym (ap (step_by p (words_of a.table.now) a.at) k) in
    child_end _ _ _ _ _ r _ e q _ (c.end_of-in-Some-Negation.ensures l p (child_ready _ _ _ _ _ r _ e q))

pub returns-in-Some-Against : goal.returns-in-Some-Against
returns-in-Some-Against t c =
    let a = c.args in
    let e : c.of_number-kind.result ≡ kind_named (kind_of (get_or (words_of a.table.now) a.at 0)) = rw (← c.node_word.ensures, ← c.kind_of.ensures) c.of_number-kind.ensures in
    let k : c.of_number-kind.result ≡ Some Kinds.Against = search rules in
    λ l p r. word_end p (words_of a.table.now) a.at _ l r _ e _ 2 (sym (ap (step_by p (words_of a.table.now) a.at) k))

pub returns-in_default : goal.returns-in_default
returns-in_default t c =
    let a = c.args in
    let e : c.of_number-kind.result ≡ kind_named (kind_of (get_or (words_of a.table.now) a.at 0)) = rw (← c.node_word.ensures, ← c.kind_of.ensures) c.of_number-kind.ensures in
    let h : bare c.in_default.field-0 ≡ true = search rules in
    λ l p r. bare_end _ _ _ _ _ r _ e _ c.in_default.is h

pub returns-in_default-2 : goal.returns-in_default-2
returns-in_default-2 t c =
    let a = c.args in
    let e : c.of_number-kind.result ≡ kind_named (kind_of (get_or (words_of a.table.now) a.at 0)) = rw (← c.node_word.ensures, ← c.kind_of.ensures) c.of_number-kind.ensures in
    λ l p r. word_end p (words_of a.table.now) a.at _ l r _ e _ 1 (sym (ap (step_by p (words_of a.table.now) a.at) c.in_default.is))

pub returns-then-eq : goal.returns-then-eq
returns-then-eq t c =
    let a = c.args in
    let e : c.of_number-kind.result ≡ kind_named (kind_of (get_or (words_of a.table.now) a.at 0)) = rw (← c.node_word.ensures, ← c.kind_of.ensures) c.of_number-kind.ensures in
    let k : c.of_number-kind.result ≡ Some Kinds.Always = search rules in
    λ l p r. bare_end _ _ _ _ _ r _ e Kinds.Always k refl
