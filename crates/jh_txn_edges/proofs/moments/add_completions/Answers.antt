use Rattle.std.proofs.Common.{arith}
use Rattle.jh_txn.proofs.OrderCheckLemmas.{done_below}
use Rattle.jh_txn_edges.specs.Moments.{IsAnyCompletionStep, IsCompletionStep}
use Rattle.jh_txn_edges.proofs.StepLemmas.{StepsBelow, adds_if, adds_more, adds_none_below}
use Rattle.jh_txn_edges.proofs.moments.add_completions.Goals as goal

pub loop-place-init : goal.loop-place-init
loop-place-init c = adds_none_below (IsCompletionStep c.args.txns.now c.args.moments.now c.args.first) c.args.graph.now

pub loop-place-preserved : goal.loop-place-preserved
loop-place-preserved c = adds_more (IsCompletionStep c.args.txns.now c.args.moments.now c.args.first) c.loop-place.place c.args.graph.now c.loop-place.graph c.add_completion.new.graph c.loop-place.invariant c.in_ok-add_completion.ensures

pub returns : goal.returns
returns c =
    adds_if (StepsBelow (IsCompletionStep c.args.txns.now c.args.moments.now c.args.first) c.loop-place.place) (IsAnyCompletionStep c.args.txns.now c.args.moments.now c.args.first) c.args.graph.now c.loop-place.graph
    (λ p w t h. (h.0, h.2))
    (λ p w t h. (h.0, omega (arith, done_below c.args.txns.now h.0 h.1.2.0, c.loop-place-test.false), h.1)) c.loop-place.invariant
