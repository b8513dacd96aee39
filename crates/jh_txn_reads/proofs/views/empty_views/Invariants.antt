use Rattle.std.proofs.Common.{◌≡◌, length}
use Rattle.jh_txn_reads.specs.Inside.{AreEmptyFrom}
use Rattle.jh_txn_reads.proofs.views.empty_views.Given as goal

abbrev pub invariant-loop-key : goal.invariant-loop-key
invariant-loop-key l = record {
  count : length l.views.items ≡ l._key;
  new : AreEmptyFrom 0 l.views.items;
}
