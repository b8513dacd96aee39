use Rattle.std.proofs.Common.{◌<◌, rules, arith}
use Rattle.std.proofs.lemmas.Result.{err_from_is_err_and}
use Rattle.jh_ops.specs.Operation.{operations}
use Rattle.jh_workers.proofs.RowLemmas.{gathered_found, gathered_to, writable_found}
use Rattle.jh_workers.specs.Gather.{rows_of_log}
use Rattle.jh_workers.proofs.records.gather.Goals as goal

-- one row more was read, and its operation added
pub loop-row-preserved : goal.loop-row-preserved
loop-row-preserved c =
    let was = c.loop-row.invariant in
    let read = c.in_ok-found.ensures in
    let s = c.loop-row.seat.knows.seen in
    let t = c.record_in.new.seat.knows.seen in
    let before = operations c.loop-row.history.items in
    let few = was.few in
    let added = c.in_ok-push_found.ensures in
    record {
      table = search rules;
      records = rw added.added (gathered_found s t c.loop-row.row c.in_ok-found.found before read.others read.found was.records);
      writable = rw added.added (writable_found _ c.in_ok-found.found before read.found was.writable);
      few = omega (arith, few, added.few);
    }

-- a row is refused, and those below it were gathered
pub returns-in_err-found-clause-refused : goal.returns-in_err-found-clause-refused
returns-in_err-found-clause-refused c =
    let s = c.loop-row.seat.knows.seen in
    let t = c.record_in.new.seat.knows.seen in
    let low : c.loop-row.row < rows_of_log c.args.rows = omega arith in
    let p = err_from_is_err_and c.from_residual.result c.from_residual.ensures.1 in
    rw (p.1, p.2) (gathered_to s t c.loop-row.row c.args.rows (operations c.loop-row.history.items) c.in_err-found.field-0.0
    c.in_err-found.ensures.others c.loop-row.invariant.records low c.in_err-found.ensures.refused)
