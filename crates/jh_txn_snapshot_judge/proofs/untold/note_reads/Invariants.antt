use Rattle.std.proofs.Common.{take}
use Rattle.jh_txn_snapshot_judge.specs.UntoldInside.{is_read_of}
use Rattle.jh_txn_snapshot_judge.proofs.StampLemmas.{KeysOf, Stamped}
use Rattle.jh_txn_snapshot_judge.proofs.untold.note_reads.Given as goal

abbrev pub invariant-loop-op : goal.invariant-loop-op
invariant-loop-op l = Stamped (KeysOf is_read_of (take l.op-index l.ops)) l.place l.fn.readers l.readers
