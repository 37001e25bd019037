-- The proofs of the three demands, each of its statement in specs/Demands.antt. Assumes nothing.
use Rattle.std.proofs.Common.{subst}
use Rattle.demands.specs.Calls.{refusal_in}
use Rattle.demands.specs.Bytes.{prune_given, Answered, rewrite_buffers, prune_buffers, rewrite_order, prune_order, prune_answered, flag_bit}
use Rattle.demands.proofs.Bytes.{rewrite_given, rewrite_answered}
use Rattle.demands.specs.Predicates.{rewrite_some, rewrite_one, prune_some, prune_one}
use Rattle.demands.proofs.Predicates.{reads_back, round_flags}
use Rattle.demands.proofs.Rows as Rows
use Rattle.demands.proofs.Sharp as Sharp
use Rattle.demands.proofs.Rounds.{round_drops, round_keeps, missing_cell, fit_without}
use Rattle.demands.specs.Demands.{Answering, DropsNoMatch, EntriesDropNoMatch, EntriesNothingBetter, EveryByteSequence, EveryPredicate, InOrder, NothingBetter, OneOutcome, WhateverIsMissing}

pub answering : Answering
answering = (rewrite_some, prune_some)

pub every_byte_sequence : EveryByteSequence
every_byte_sequence = (
  λ c. subst (λ n. Answered n (refusal_in c.answer) (rewrite_buffers c)) (rewrite_order c.asked) (rewrite_answered c),
  λ c. subst (λ n. Answered n c.answer (prune_buffers c)) (prune_order c.given) (prune_answered c),
  flag_bit,
)

pub in_order : InOrder
in_order = (rewrite_given, prune_given)

pub one_outcome : OneOutcome
one_outcome = (rewrite_one, prune_one)

pub every_predicate : EveryPredicate
every_predicate = (reads_back, round_flags)

pub drops_no_match : DropsNoMatch
drops_no_match = Rows.drops_no_match

pub entries_drop_no_match : EntriesDropNoMatch
entries_drop_no_match = round_drops

pub whatever_is_missing : WhateverIsMissing
whatever_is_missing = (missing_cell, fit_without)

pub nothing_better : NothingBetter
nothing_better = Sharp.nothing_better

pub entries_nothing_better : EntriesNothingBetter
entries_nothing_better = round_keeps
