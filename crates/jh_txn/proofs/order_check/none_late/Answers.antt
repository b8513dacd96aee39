use Rattle.std.proofs.Common.{◌<◌, length, sym, ◌∙◌, arith}
use Rattle.std.proofs.lemmas.Bool.{false≢true}
use Rattle.jh_txn.proofs.OrderCheckLemmas.{late_at, none_more, high_more, reached_more}
use Rattle.jh_txn.proofs.order_check.none_late.Goals as goal

pub returns-then-is_done_before : goal.returns-then-is_done_before
returns-then-is_done_before c =
    let low : c.loop-place.place-index < length c.args.order.now = omega arith in
    let txns = c.args.txns.now in
    let order = c.args.order.now in
    let i = c.loop-place.place-index in
    let reached = reached_more txns order i c.loop-place.latest low c.max-latest.result c.invoked_at.result c.invoked_at.ensures c.max-latest.ensures c.loop-place.invariant.reached in
    (λ e. absurd (false≢true e), λ none. absurd (late_at txns order i c.max-latest.result low reached (c.is_done_before.ensures.0 c.if-is_done_before.true) none))

pub loop-place-preserved : goal.loop-place-preserved
loop-place-preserved c =
    let low : c.loop-place.place-index < length c.args.order.now = omega arith in
    let txns = c.args.txns.now in
    let order = c.args.order.now in
    let i = c.loop-place.place-index in
    let latest = c.loop-place.latest in
    let high = high_more txns order i latest low c.max-latest.result c.invoked_at.result c.invoked_at.ensures c.max-latest.ensures c.loop-place.invariant.high in
    record {
      none = none_more txns order i c.max-latest.result low c.loop-place.invariant.none high (λ over. false≢true (sym c.if-is_done_before.false ∙ c.is_done_before.ensures.1 over));
      high = high;
      reached = reached_more txns order i latest low c.max-latest.result c.invoked_at.result c.invoked_at.ensures c.max-latest.ensures c.loop-place.invariant.reached;
    }
