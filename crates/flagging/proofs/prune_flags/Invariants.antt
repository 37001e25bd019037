-- After i turns the first i flags are stored. Assumes nothing.
use Rattle.std.proofs.Common.{◌≡◌}
use Rattle.std.proofs.lemmas.List.Edits.{sets}
use Rattle.flagging.specs.Flags.{flags_for}
use Rattle.flagging.proofs.prune_flags.Given as goal

abbrev pub invariant-loop-i : goal.invariant-loop-i
invariant-loop-i l =
    (l.container.table.now ≡ l.c.table.now) × (l.container.pool.now ≡ l.c.pool.now) × (l.container.cells.now ≡ l.c.cells.now)
    × (l.flags ≡ sets l.initial.flags 0 (flags_for l.c.list.now l.c.pool.now l.c.table.now l.c.guarantees.now l.c.cells.now l.c.grid.now l.c.answers.now 0 l.i))
