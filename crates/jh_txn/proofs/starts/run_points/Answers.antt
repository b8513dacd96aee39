use Rattle.std.proofs.Common.{◌<◌, length, take, get_or, sym, subst, ◌∙◌, refl, arith}
use Rattle.std.proofs.lemmas.Bool.{false≢true}
use Rattle.std.proofs.lemmas.List.{take_more}
use Rattle.jh_txn.specs.declared.txn.Point.TheVariants.{Start}
use Rattle.jh_txn.specs.OrderCheckInside.{AreListsAfter}
use Rattle.jh_txn.specs.SnapshotOrders.{commits}
use Rattle.jh_txn.proofs.StartLemmas.{explained_if_saw, saw_if_explained, lists_behind, starts_if, start_at, starts_more}
use Rattle.jh_txn.proofs.starts.run_points.Goals as goal

pub returns-then-not-branch : goal.returns-then-not-branch
returns-then-not-branch c =
    let txns = c.args.txns.now in
    let points = c.args.points.now in
    let keys = length c.args.lists.now in
    let i = c.loop-point.point-index in
    let point = get_or points i (Start 0) in
    let low : i < length points = omega arith in (
      λ e. absurd (false≢true e),
      λ explains. absurd (false≢true (sym c.if-not-branch.true ∙ c.in_ok-run_point.ensures.saw.1
          (saw_if_explained txns keys (take i points) c.loop-point.lists c.requires.keys c.loop-point.invariant.lists point (start_at txns points i low explains)))),
    )

pub loop-point-preserved : goal.loop-point-preserved
loop-point-preserved c =
    let txns = c.args.txns.now in
    let points = c.args.points.now in
    let keys = length c.args.lists.now in
    let i = c.loop-point.point-index in
    let point = get_or points i (Start 0) in
    let low : i < length points = omega arith in
    let saw = c.if-not-branch.false in
    record {
      lists = subst (λ xs. AreListsAfter txns keys (commits xs) c.run_point.new.lists) (sym (take_more points i (Start 0) low)) (lists_behind txns keys (take i points) c.loop-point.lists c.requires.keys c.loop-point.invariant.lists point c.run_point.new.lists (c.in_ok-run_point.ensures.after saw));
      explained = starts_more txns points i (explained_if_saw txns keys (take i points) c.loop-point.lists c.requires.keys c.loop-point.invariant.lists point (c.in_ok-run_point.ensures.saw.0 saw)) c.loop-point.invariant.explained;
    }

pub returns : goal.returns
returns c = (λ _. starts_if c.args.txns.now c.args.points.now (λ i low. c.loop-point.invariant.explained i (omega (arith, low, c.loop-point-test.false))), λ _. refl)
