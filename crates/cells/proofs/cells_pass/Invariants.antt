-- The cells from a row on pass or not. Assumes nothing.
use Rattle.std.proofs.Common.{◌≡◌, ℕ, Bool}
use Rattle.words.specs.Word.{words_of}
use Rattle.cells.specs.Columns.{Tests, cells_pass, cells_from}
use Rattle.cells.proofs.cells_pass.Given as goal

abbrev pub invariant-loop-row : goal.invariant-loop-row
invariant-loop-row g l =
    (test : ℕ → Bool) → Tests (goal.F-post g l.fine) test
    → cells_pass test (words_of l.grid) l.wide l.containers l.at ≡ cells_from test l.grid l.wide l.containers l.at l.row
