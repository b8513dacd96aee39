use Rattle.jh_txn.proofs.SerialOrderLemmas as serial
use Rattle.jh_txn.proofs.SnapshotOrderLemmas as snapshot
use Rattle.jh_txn.proofs.laws.cycles_exclude.Goals as goal

pub returns-clause-serial : goal.returns-clause-serial
returns-clause-serial c = λ txns model order steps once cycle orders. serial.no_cycle txns order once orders.serial model orders steps cycle

pub returns-clause-snapshot : goal.returns-clause-snapshot
returns-clause-snapshot c = λ txns model points steps once cycle orders. snapshot.no_cycle txns points once orders.snapshot model orders steps cycle
