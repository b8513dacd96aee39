use Rattle.std.proofs.Common.{take}
use Rattle.jh_txn_seen.specs.Marks.{AddsMarks}
use Rattle.jh_txn_snapshot_judge.specs.UntoldInside.{AppendsBlind}
use Rattle.jh_txn_snapshot_judge.proofs.untold.mark_blind.Given as goal

abbrev pub invariant-loop-op : goal.invariant-loop-op
invariant-loop-op l = AddsMarks (AppendsBlind l.readers l.marks l.place (take l.op-index l.ops)) l.fn.untold l.untold
