use Rattle.std.proofs.Common.{◌≡◌, length}
use Rattle.jh_txn_writers.specs.TableInside.{AreEntriesBefore}
use Rattle.jh_txn_writers.proofs.table.writers_of.Given as goal

abbrev pub invariant-loop-place : goal.invariant-loop-place
invariant-loop-place l = record {
  keys : length l.entries.last.items ≡ l.keys;
  elements : length l.entries.table.items ≡ l.elements;
  entered : AreEntriesBefore l.txns l.place l.entries;
}
