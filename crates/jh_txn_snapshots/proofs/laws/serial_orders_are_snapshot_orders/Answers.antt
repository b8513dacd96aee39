use Rattle.jh_txn_snapshots.proofs.AtOnceLemmas.{is_snapshot_order}
use Rattle.jh_txn_snapshots.proofs.laws.serial_orders_are_snapshot_orders.Goals as goal

pub returns : goal.returns
returns c = λ txns real_time order serial. is_snapshot_order txns real_time order serial
