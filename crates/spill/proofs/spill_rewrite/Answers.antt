-- A refusal writes nothing; else the four outputs are written. Assumes nothing.
use Rattle.std.proofs.Common.{◌≡◌, refl, ◌*◌, ◌^◌, ◌%◌, sym, arith, rules}
use Rattle.limits.specs.Refusals.{number_of}
use Rattle.predicate.specs.Checked.{number_some}
use Rattle.spill.specs.Bounds.{number_below}
use Rattle.spill.specs.Rewriting.{buffers_of, rewrote_refused, rewrote_done}
use Rattle.spill.proofs.spill_rewrite.Goals as goal

pub write_outputs-requires : goal.write_outputs-requires
write_outputs-requires c = sym c.in-Ok.ensures

pub returns-in-Ok : goal.returns-in-Ok
returns-in-Ok c =
    rewrote_done _ _ _ _ (buffers_of c.args.table.now c.args.table_pool.now c.args.statistics.now c.args.guarantees.now) _ _ _ c.in-Ok.ensures refl c.write_outputs.ensures

pub returns-in-Err : goal.returns-in-Err
returns-in-Err c =
    let old = buffers_of c.args.table.now c.args.table_pool.now c.args.statistics.now c.args.guarantees.now in
    let h = number_below c.in-Err.refusal in
    let e : number_of c.in-Err.refusal * 2 ^ 56 % 2 ^ 64 ≡ number_of c.in-Err.refusal * 2 ^ 56 = omega arith in
    rw (c.from-in-Err.ensures, c.from.ensures, e) (rewrote_refused _ _ _ _ old _ c.in-Err.ensures (number_some c.in-Err.refusal))
