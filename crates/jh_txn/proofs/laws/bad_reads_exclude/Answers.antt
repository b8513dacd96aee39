use Rattle.jh_txn.proofs.SerialOrderLemmas as serial
use Rattle.jh_txn.proofs.SnapshotReadLemmas as snapshot
use Rattle.jh_txn.proofs.laws.bad_reads_exclude.Goals as goal

pub returns-clause-serial : goal.returns-clause-serial
returns-clause-serial c = λ txns real_time order place index kind once bad orders. serial.no_bad_read txns order once orders.serial place index kind bad

pub returns-clause-snapshot : goal.returns-clause-snapshot
returns-clause-snapshot c = λ txns real_time points place index kind once bad orders. snapshot.no_bad_read txns points once orders.snapshot place index kind bad
