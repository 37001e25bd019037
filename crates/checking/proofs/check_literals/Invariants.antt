-- What is left of the literals decides. Assumes nothing.
use Rattle.std.proofs.Common.{◌≡◌, ◌-◌}
use Rattle.words.specs.Word.{words_of}
use Rattle.predicate.specs.Checking.{check_literals}
use Rattle.checking.proofs.check_literals.Given as goal

abbrev pub invariant-loop : goal.invariant-loop
invariant-loop l =
    check_literals l.r.schema.now l.r.pool.now (words_of l.r.words.now) l.count l.c l.fn.s
    ≡ check_literals l.r.schema.now l.r.pool.now (words_of l.r.words.now) (l.count - l.counter) l.c l.t
