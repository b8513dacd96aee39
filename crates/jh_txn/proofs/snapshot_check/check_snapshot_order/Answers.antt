use Rattle.std.proofs.Common.{sym, ◌∙◌}
use Rattle.std.proofs.lemmas.Bool.{false≢true}
use Rattle.jh_txn.specs.SnapshotCheckInside.{ExplainsStarts}
use Rattle.jh_txn.specs.SnapshotOrders.{IsSnapshotOrderFor}
use Rattle.jh_txn.proofs.OrderCheckLemmas.{same_answer}
use Rattle.jh_txn.proofs.SnapshotTimeLemmas.{low_points, no_late_if, placed_of, snapshot_if}
use Rattle.jh_txn.proofs.snapshot_check.check_snapshot_order.Goals as goal

pub returns-then-not-keeps_time_at : goal.returns-then-not-keeps_time_at
returns-then-not-keeps_time_at c =
    let txns = c.args.txns.now in
    let points = c.args.points.now in
    (λ e. absurd (false≢true e), λ orders. absurd (false≢true (sym c.if-not-keeps_time_at.true ∙ c.keeps_time_at.ensures.1 (λ asked. no_late_if txns points (placed_of txns points orders.snapshot) (orders.timely asked)))))

pub explains_starts-requires-clause-there : goal.explains_starts-requires-clause-there
explains_starts-requires-clause-there c = low_points c.args.txns.now c.args.points.now (c.in_ok-are_placed.ensures.0 c.if-not-branch.false)

pub returns : goal.returns
returns c =
    let txns = c.args.txns.now in
    let points = c.args.points.now in
    same_answer c.explains_starts.result (ExplainsStarts txns points) (IsSnapshotOrderFor txns c.args.real_time points) c.explains_starts.ensures
    (snapshot_if txns c.args.real_time points (c.in_ok-are_placed.ensures.0 c.if-not-branch.false) (c.keeps_time_at.ensures.0 c.if-not-keeps_time_at.false) (c.in_ok-are_writers_apart.ensures.0 c.if-not-branch-2.false))
    (λ orders. orders.snapshot.reads)
