use Rattle.std.proofs.Common.{take, length}
use Rattle.jh_txn.specs.SnapshotCheckInside.{ArePointsInTurn, ArePhases}
use Rattle.jh_txn.proofs.phases.pass_all.Given as goal

abbrev pub invariant-loop-point : goal.invariant-loop-point
invariant-loop-point l = record {
  turn : ArePointsInTurn (length l.fn.phases) (take l.point-index l.points);
  behind : ArePhases (length l.fn.phases) (take l.point-index l.points) l.phases;
}
