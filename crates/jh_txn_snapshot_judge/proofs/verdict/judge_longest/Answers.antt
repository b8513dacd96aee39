use Rattle.std.proofs.Common.{◌≡◌, sym, ap, subst, ◌∙◌}
use Rattle.jh_txn.specs.SerialOrders.{IsSerialOrderFor}
use Rattle.jh_txn.specs.SnapshotOrders.{IsSnapshotOrderFor}
use Rattle.jh_txn_snapshot_judge.specs.SerialInside.{marked_places}
use Rattle.jh_txn_snapshots.specs.AtOnce.{at_once}
use Rattle.jh_txn_snapshots.proofs.AtOnceLemmas.{is_snapshot_order}
use Rattle.jh_txn_snapshot_judge.proofs.verdict.judge_longest.Goals as goal

pub returns-in_ok-points-in-Some : goal.returns-in_ok-points-in-Some
returns-in_ok-points-in-Some c =
    let txns = c.args.txns.now in
    let there = c.args.there.now in
    let places = c.in-Some.places.items in
    let real_time = c.args.real_time in
    let serial : IsSerialOrderFor txns real_time (marked_places there places) = rw c.in-Some.is at c.in_ok-places.ensures in
    let is : c.in_ok-points-in-Some.points.items ≡ at_once (marked_places there places) = c.in_ok-points-in-Some.ensures ∙ ap (λ nodes. at_once (marked_places there nodes)) c.deref.ensures.value in
    subst (IsSnapshotOrderFor txns real_time) (sym is) (is_snapshot_order txns real_time (marked_places there places) serial)
