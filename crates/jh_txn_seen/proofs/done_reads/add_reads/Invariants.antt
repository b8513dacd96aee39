use Rattle.jh_txn_seen.specs.Inside.{AddsReads}
use Rattle.jh_txn_seen.proofs.done_reads.add_reads.Given as goal

abbrev pub invariant-loop-op : goal.invariant-loop-op
invariant-loop-op l = AddsReads l.place l.ops l.op-index l.fn.reads.items l.reads.items
