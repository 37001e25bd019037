-- From none on, the list is all that the predicate asks for, and has its room. Assumes nothing.
use borrow.Author.Rules.{rules}
use Rattle.limits.specs.Limits.{max_depth}
use Rattle.words.specs.Word.{words_of}
use Rattle.predicate.specs.Predicates.{predicate_at}
use Rattle.table.specs.Rewriting.{lists}
use Rattle.listing.specs.ListingLaws.{room_all}
use Rattle.asking.proofs.Laws.{all_columns, all_listed}
use Rattle.asking.proofs.list_statistics.Goals as goal

pub list_at-requires : goal.list_at-requires
list_at-requires c =
    let a = c.args.r.now in
    let p = (predicate_at a.pool.now (words_of a.words.now) max_depth 0).predicate in
    (search rules, c.requires.1, room_all (lists a.limit a.schema.now p) _ (all_columns a.limit a.schema.now p c.requires.0 c.requires.1) c.requires.2)

pub returns : goal.returns
returns c =
    let a = c.args.r.now in
    let p = (predicate_at a.pool.now (words_of a.words.now) max_depth 0).predicate in
    let h = all_listed (lists a.limit a.schema.now p) _ _ _ (all_columns a.limit a.schema.now p c.requires.0 c.requires.1) c.requires.2 c.list_at.ensures.list in
    record { count = h.0; list = h.1 }
