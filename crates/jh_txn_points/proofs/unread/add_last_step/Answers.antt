use Rattle.jh_txn_edges.proofs.StepLemmas.{on_ok_then}
use Rattle.jh_txn_points.proofs.PointStepLemmas.{last_added}
use Rattle.jh_txn_points.proofs.unread.add_last_step.Goals as goal

pub returns-else-first-writer : goal.returns-else-first-writer
returns-else-first-writer c =
    on_ok_then c.add.result _ _ (last_added c.args.count c.args.graph.now c.add.new.graph c.args.writers.now c.args.writer.now c.args.reader c.args.last c.in-Some.first c.last_reason-why.result c.in-Some.ensures c.if-first-writer.false c.last_reason-why.ensures) c.add.ensures
