use Rattle.jh_txn.proofs.KeepingLemmas.{suffices_for}
use Rattle.jh_txn.proofs.SnapshotKeepingLemmas.{suffices}
use Rattle.jh_txn.proofs.laws.dependencies_suffice.Goals as goal

pub returns-clause-serial : goal.returns-clause-serial
returns-clause-serial c = λ txns model order once ends good all keeps. suffices_for txns model order once ends good all keeps

pub returns-clause-snapshot : goal.returns-clause-snapshot
returns-clause-snapshot c = λ txns model points once ends good keeps. suffices txns model points once ends good keeps
