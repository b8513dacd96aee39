use Rattle.jh_txn_seen.specs.Reads.{AreReadsBelow}
use Rattle.jh_txn_seen.proofs.done_reads.reads_of.Given as goal

abbrev pub invariant-loop-place : goal.invariant-loop-place
invariant-loop-place l = AreReadsBelow l.txns l.place l.reads.items
