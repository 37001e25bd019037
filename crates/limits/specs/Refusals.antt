-- The number of each refusal, and of a call that may be refused. Assumes nothing.
use Rattle.std.specs.Prelude.{ℕ, Result, Ok, Err}
use Rattle.limits.specs.Limits.{bad_schema, bad_limit, no_room, malformed, over_limit, misfit, bad_containers, bad_table, bad_grid, bad_answers}
use Rattle.limits.specs.declared.Refusal.{Refusal}
use Rattle.limits.specs.declared.Refusal.TheVariants.{BadSchema, BadLimit, NoRoom, Malformed, OverLimit, Misfit, BadContainers, BadTable, BadGrid, BadAnswers}

abbrev pub number_of : Refusal → ℕ
number_of BadSchema = bad_schema
number_of BadLimit = bad_limit
number_of NoRoom = no_room
number_of Malformed = malformed
number_of OverLimit = over_limit
number_of Misfit = misfit
number_of BadContainers = bad_containers
number_of BadTable = bad_table
number_of BadGrid = bad_grid
number_of BadAnswers = bad_answers

-- 0 where nothing is refused
abbrev pub fault_of : Result (Unit {0}) Refusal → ℕ
fault_of (Ok u) = 0
fault_of (Err r) = number_of r
