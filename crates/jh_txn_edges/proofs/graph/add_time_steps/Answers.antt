use Rattle.jh_txn_edges.specs.Moments.{IsMomentStep, IsTimeStep}
use Rattle.jh_txn_edges.proofs.StepLemmas.{adds_if, on_ok_then}
use Rattle.jh_txn_edges.proofs.graph.add_time_steps.Goals as goal

pub returns-then-real_time : goal.returns-then-real_time
returns-then-real_time c =
    on_ok_then c.add_moment_steps.result _ _ (adds_if (IsMomentStep c.args.txns.now c.args.there.now c.args.moments.now c.args.first) (IsTimeStep c.args.txns.now c.args.there.now c.args.moments.now c.args.first c.args.real_time) c.args.graph.now c.add_moment_steps.new.graph (λ p w t h. (c.if-real_time.true, h)) (λ p w t h. h.1)) c.add_moment_steps.ensures
