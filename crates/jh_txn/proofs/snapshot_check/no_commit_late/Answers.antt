use Rattle.std.proofs.Common.{◌≡◌, ◌<◌, ◌≤◌, ◌+◌, ℕ, length, take, drop, get_or, sym, subst, ◌∙◌, arith}
use Rattle.std.proofs.lemmas.Bool.{false≢true}
use Rattle.std.proofs.lemmas.List.{take_more}
use Rattle.jh_txn.specs.declared.txn.Point.TheVariants.{Start}
use Rattle.jh_txn.specs.RealTime.{invoked_at}
use Rattle.jh_txn.specs.SnapshotCheckInside.{IsNoCommitTooLate, latest_behind}
use Rattle.jh_txn.specs.SnapshotOrders.{HasPoint}
use Rattle.jh_txn.proofs.PhaseLemmas.{cut_points}
use Rattle.jh_txn.proofs.SnapshotTimeLemmas.{late_commit, commits_in_time, high_behind, reached_behind}
use Rattle.jh_txn.proofs.snapshot_check.no_commit_late.Goals as goal

pub returns-then-is_commit_late : goal.returns-then-is_commit_late
returns-then-is_commit_late c =
    let txns = c.args.txns.now in
    let points = c.args.points.now in
    let i = c.loop-point.point-index in
    let low : i < length points = omega arith in (
      λ e. absurd (false≢true e),
      λ none. absurd (late_commit txns (take i points) c.loop-point.latest (get_or points i (Start 0)) (drop (i + 1) points) c.loop-point.invariant.reached (c.is_commit_late.ensures.0 c.if-is_commit_late.true) (subst (IsNoCommitTooLate txns) (cut_points points i low) none)),
    )

pub loop-point-preserved : goal.loop-point-preserved
loop-point-preserved c =
    let txns = c.args.txns.now in
    let points = c.args.points.now in
    let i = c.loop-point.point-index in
    let low : i < length points = omega arith in
    let latest = c.loop-point.latest in
    let point = get_or points i (Start 0) in
    let more = take_more points i (Start 0) low in
    record {
      none = subst (IsNoCommitTooLate txns) (sym more) (commits_in_time txns (take i points) latest point c.loop-point.invariant.none c.loop-point.invariant.high (λ late. false≢true (sym c.if-is_commit_late.false ∙ c.is_commit_late.ensures.1 late)));
      high = λ place h. subst (λ n. invoked_at txns place ≤ n) (sym c.later-latest.ensures) (high_behind txns (take i points) latest point c.loop-point.invariant.high place (subst (λ xs. HasPoint xs (Start place)) more h));
      reached = λ positive.
          subst (λ n. (place : ℕ) × HasPoint (take (i + 1) points) (Start place) × (invoked_at txns place ≡ n)) (sym c.later-latest.ensures)
          (subst (λ xs. (place : ℕ) × HasPoint xs (Start place) × (invoked_at txns place ≡ latest_behind txns latest point)) (sym more)
          (reached_behind txns (take i points) latest point c.loop-point.invariant.reached (subst (λ n. 0 < n) c.later-latest.ensures positive)));
    }
