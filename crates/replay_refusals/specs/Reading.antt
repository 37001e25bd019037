-- What a run of bytes leaves of a field. Assumes nothing.
use Rattle.std.specs.Prelude.{ℕ, ◌+◌, ◌≤◌, ◌<◌, length, Option, Some, None}
use Rattle.std.proofs.Common.{arith}
use Rattle.replay_refusals.specs.declared.Run.{Run}

-- a run that begins at a place of a field ends behind it, inside the field: less is left of the field than behind that place
abbrev pub Leads : ℕ → ℕ → Option Run → Type 0
Leads at len (Some r) = at + length r.rest.now < len
Leads at len None = Unit {0}

-- a run that begins later leads on from here
pub leads_from : (at star len : ℕ) (r : Option Run) → at ≤ star → Leads star len r → Leads at len r
leads_from at star len (Some r) h k = omega arith
leads_from at star len None h k = tt
