-- The closure tells a member that stays. Assumes nothing.
use Rattle.std.proofs.Common.{◌≡◌, ℕ, ◌+◌, refl, ◌∙◌, rules, tests, arith, add-zero}
use Rattle.std.proofs.lemmas.Iterator.{YieldsList-from_range}
use Rattle.std.proofs.lemmas.Iterator.Consumers.{YieldsList-at, YieldsList-from_filter, count_from_yields_List}
use Rattle.words.specs.Word.{words_of}
use Rattle.members.proofs.Laws.{stays_at, count_stays}
use Rattle.members.proofs.count_open.Goals as goal

pub returns : goal.returns
returns c =
    let r = c.args.r.now in
    let m = c.args.m in
    let ws = words_of r.words.now in
    count_from_yields_List _ _ c.count.ensures.ran
    (YieldsList-from_filter _ (stays_at r.schema.now r.pool.now ws m.negated m.column m.flips (m.at + 1)) (YieldsList-at c.filter.ensures.source (YieldsList-from_range 0 c.from.result m.count refl (omega arith))) c.filter.ensures.closure (λ x b q k. search (rules, tests)))
    ∙ rw (count_stays r.schema.now r.pool.now ws m.negated m.column m.flips (m.at + 1) m.count 0, add-zero)
