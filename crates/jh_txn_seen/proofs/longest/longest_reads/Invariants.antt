use Rattle.std.proofs.Common.{◌≡◌, length}
use Rattle.jh_txn_seen.specs.Reads.{AreLongestOf}
use Rattle.jh_txn_seen.proofs.longest.longest_reads.Given as goal

abbrev pub invariant-loop-read : goal.invariant-loop-read
invariant-loop-read l = record {
  count : length l.table.items ≡ l.keys;
  longest : AreLongestOf l.reads l.read-index l.table.items;
}
