-- An accepted call has room for all that it writes, and its statistics are read back as they were listed. Assumes nothing.
use Rattle.std.proofs.Common.{rules, arith, refl}
use Rattle.spill.specs.Done.{Buffers}
use Rattle.spill.specs.Rewriting.{buffers_of, accepted, front_list, front_few, front_fits, front_count, roomy, promised, counts, rewrote_outputs}
use Rattle.spill.proofs.write_outputs.Goals as goal

pub list_statistics-n-requires : goal.list_statistics-n-requires
list_statistics-n-requires c =
    let old = buffers_of c.args.table.now c.args.table_pool.now c.args.statistics.now c.args.guarantees.now in
    let k = accepted _ _ _ _ old c.requires in
    (k.few, k.whole.fine, k.statistics)

pub overflow_mul-w : goal.overflow_mul-w
overflow_mul-w c =
    let old = buffers_of c.args.table.now c.args.table_pool.now c.args.statistics.now c.args.guarantees.now in
    let f = front_fits _ _ _ _ old c.requires _ _ c.list_statistics-n.ensures.count c.list_statistics-n.ensures.list in
    search rules

pub slice_bounds-w-end : goal.slice_bounds-w-end
slice_bounds-w-end c =
    let old = buffers_of c.args.table.now c.args.table_pool.now c.args.statistics.now c.args.guarantees.now in
    front_fits _ _ _ _ old c.requires _ _ c.list_statistics-n.ensures.count c.list_statistics-n.ensures.list

pub slice_bounds-w-end-2 : goal.slice_bounds-w-end-2
slice_bounds-w-end-2 c =
    let old = buffers_of c.args.table.now c.args.table_pool.now c.args.statistics.now c.args.guarantees.now in
    front_count _ _ _ _ old c.requires _ _ c.list_statistics-n.ensures.count c.list_statistics-n.ensures.list

pub emit-requires : goal.emit-requires
emit-requires c =
    let old = buffers_of c.args.table.now c.args.table_pool.now c.args.statistics.now c.args.guarantees.now in
    let k = accepted _ _ _ _ old c.requires in
    (omega arith, k.whole.fine, front_few _ _ _ _ old c.requires _ _ c.list_statistics-n.ensures.count c.list_statistics-n.ensures.list, roomy _ _ _ _ old c.requires)

pub write_guarantees-g-requires : goal.write_guarantees-g-requires
write_guarantees-g-requires c =
    let old = buffers_of c.args.table.now c.args.table_pool.now c.args.statistics.now c.args.guarantees.now in
    promised _ _ _ _ old c.requires

pub answer_word-requires : goal.answer_word-requires
answer_word-requires c =
    let old = buffers_of c.args.table.now c.args.table_pool.now c.args.statistics.now c.args.guarantees.now in
    counts _ _ _ _ old c.requires c.emit.new.w.at c.write_guarantees-g.result c.list_statistics-n.result c.emit.ensures.wrote.answer c.list_statistics-n.ensures.count c.write_guarantees-g.ensures.count

pub returns : goal.returns
returns c =
    let old = buffers_of c.args.table.now c.args.table_pool.now c.args.statistics.now c.args.guarantees.now in
    let wrote = rw (front_list _ _ _ _ old c.requires _ _ c.list_statistics-n.ensures.count c.list_statistics-n.ensures.list) at c.emit.ensures.wrote in
    rewrote_outputs _ _ _ _ old c.requires _ c.emit.new.w.at c.write_guarantees-g.result c.list_statistics-n.result _ c.list_statistics-n.ensures.list c.list_statistics-n.ensures.count (search rules) c.write_guarantees-g.ensures c.answer_word.ensures
