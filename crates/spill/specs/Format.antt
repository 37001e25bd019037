-- The packed format's number. It goes up whenever a word, a room or a buffer that callers pack, lend or store changes its layout.
-- Assumes nothing.
use Rattle.std.specs.Prelude.{ℕ}

abbrev pub format : ℕ
format = 1
