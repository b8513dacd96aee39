use Rattle.jh_txn.proofs.SerialOrderLemmas as serial
use Rattle.jh_txn.proofs.SnapshotOrderLemmas as snapshot
use Rattle.jh_txn.proofs.laws.dependencies_order.Goals as goal

pub returns-clause-serial_there : goal.returns-clause-serial_there
returns-clause-serial_there c = λ txns real_time order place once orders must. serial.there txns order once orders.serial place must

pub returns-clause-serial : goal.returns-clause-serial
returns-clause-serial c = λ txns model order once orders why first second needs. serial.ordered txns order once orders.serial model why first second orders needs

pub returns-clause-snapshot_there : goal.returns-clause-snapshot_there
returns-clause-snapshot_there c = λ txns real_time points place once orders must. snapshot.starts txns points once orders.snapshot place must

pub returns-clause-snapshot : goal.returns-clause-snapshot
returns-clause-snapshot c = λ txns model points once orders why first second needs. snapshot.ordered txns points once orders.snapshot model orders why first second needs
