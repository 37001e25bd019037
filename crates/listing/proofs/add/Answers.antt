-- A listed statistic changes nothing; another is stored behind the first n. Assumes nothing.
use Rattle.std.proofs.Common.{◌<◌, ◌^◌, Fits, w64, rules}
use Rattle.statistics.specs.Statistics.{statistic_word}
use Rattle.listing.specs.Listing.{listed_in}
use Rattle.listing.specs.ListingLaws.{grown_old, room_new, grown_new}
use Rattle.listing.proofs.Laws.{word_column}
use Rattle.listing.proofs.add.Goals as goal

pub returns-then-find-n : goal.returns-then-find-n
unfolding listed_in
returns-then-find-n c =
    grown_old c.args.s c.args.n c.args.list.now c.requires.front (rw c.find.ensures at c.if-find-n.true)

pub put_word-requires : goal.put_word-requires
unfolding listed_in
put_word-requires c =
    room_new c.args.s c.args.n c.args.list.now c.requires.front c.requires (rw c.find.ensures at c.if-find-n.false)

pub returns : goal.returns
unfolding listed_in
returns c =
    let h = rw c.find.ensures at c.if-find-n.false in
    let room = room_new c.args.s c.args.n c.args.list.now c.requires.front c.requires h in
    let f : Fits w64 c.statistic_word.result = search rules in
    let w : statistic_word c.args.s < 2 ^ 64 = rw c.statistic_word.ensures at f.fits in
    rw (c.put_word.ensures, c.statistic_word.ensures)
    (grown_new c.args.s c.args.n c.args.list.now c.requires.front (word_column c.args.s w) room h)
