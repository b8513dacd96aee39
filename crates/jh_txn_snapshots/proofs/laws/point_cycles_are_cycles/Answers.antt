use Rattle.jh_txn_snapshots.proofs.PointCycleLemmas.{is_snapshot_cycle}
use Rattle.jh_txn_snapshots.proofs.laws.point_cycles_are_cycles.Goals as goal

pub returns : goal.returns
returns c = λ txns model steps cycle. is_snapshot_cycle txns model steps cycle
