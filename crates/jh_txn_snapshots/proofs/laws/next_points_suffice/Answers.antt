use Rattle.jh_txn.proofs.SnapshotKeepingLemmas.{suffices}
use Rattle.jh_txn_snapshots.proofs.NextPointLemmas.{keeps_all}
use Rattle.jh_txn_snapshots.proofs.UntoldLemmas.{writers_apart}
use Rattle.jh_txn_snapshots.proofs.laws.next_points_suffice.Goals as goal

pub returns-clause-kept : goal.returns-clause-kept
returns-clause-kept c = λ txns model longest points once good snapshots longests all keeps. keeps_all txns model longest points once good snapshots longests all keeps

pub returns-clause-snapshot : goal.returns-clause-snapshot
returns-clause-snapshot c = λ txns model longest points once ends good snapshots longests all apart keeps.
    let kept = keeps_all txns model longest points once good snapshots longests all keeps in
    suffices txns model points once ends good (record {
      distinct = all.distinct;
      paired = all.paired;
      there = all.there;
      apart = writers_apart txns model snapshots points longest once longests all apart kept;
      kept = kept;
    })
