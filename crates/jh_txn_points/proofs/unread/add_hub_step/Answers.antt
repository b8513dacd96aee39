use Rattle.jh_txn_edges.proofs.StepLemmas.{on_ok_then}
use Rattle.jh_txn_points.proofs.PointStepLemmas.{hub_added}
use Rattle.jh_txn_points.proofs.unread.add_hub_step.Goals as goal

pub returns-then-is_full : goal.returns-then-is_full
returns-then-is_full c = on_ok_then c.add.result _ _ (hub_added c.args.count c.args.graph.now c.add.new.graph c.args.longest.now c.args.read.now (c.is_full.ensures.0 c.if-is_full.true)) c.add.ensures
