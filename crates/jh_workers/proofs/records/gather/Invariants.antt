use Rattle.std.proofs.Common.{◌≡◌, ◌≤◌, All, length}
use Rattle.jh_ops.specs.Operation.{operations}
use Rattle.jh_ops.specs.OperationWritten.{IsWritable}
use Rattle.jh_workers.specs.Gather.{AreRecordsOf, record_rows}
use Rattle.jh_workers.proofs.records.gather.Given as goal

abbrev pub invariant-loop-row : goal.invariant-loop-row
invariant-loop-row l = record {
  table : l.seat.table ≡ l.slots.table;
  records : AreRecordsOf l.seat.knows.seen 0 (record_rows l.seat.knows.seen l.row) (operations l.history.items);
  writable : All (λ op. IsWritable op.process) (operations l.history.items);
  few : length l.history.items ≤ l.row;
}
