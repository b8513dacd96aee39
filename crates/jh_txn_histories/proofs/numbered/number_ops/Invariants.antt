use Rattle.std.proofs.Common.{take}
use Rattle.std.specs.List.{AllZip}
use Rattle.jh_txn_histories.specs.Histories.{IsNumbered}
use Rattle.jh_txn_histories.specs.ReadingInside.{TablesGrow, written_ops}
use Rattle.jh_txn_histories.proofs.numbered.number_ops.Given as goal

abbrev pub invariant-loop-op : goal.invariant-loop-op
invariant-loop-op l = record {
  numbered : AllZip (IsNumbered l.tables.keys l.tables.elements) (written_ops (take l.op-index l.ops)) l.numbered.items;
  grows : TablesGrow l.fn.tables l.tables;
}
