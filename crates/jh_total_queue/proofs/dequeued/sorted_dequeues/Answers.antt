use Rattle.std.proofs.Common.{◌∙◌}
use Rattle.jh_edn.specs.View.{views}
use Rattle.jh_total_queue.proofs.DrainLemmas.{dequeues_more}
use Rattle.jh_total_queue.proofs.dequeued.sorted_dequeues.Goals as goal

pub loop-op-preserved : goal.loop-op-preserved
loop-op-preserved c =
    c.in_ok-push_normal.ensures
    ∙ dequeues_more c.args.history.now c.loop-op.op-index c.op-item.result (views c.loop-op.values.items) (views c.taken_by.result.now)
    c.loop-op-test.true c.op-item.is c.taken_by.ensures c.loop-op.invariant
