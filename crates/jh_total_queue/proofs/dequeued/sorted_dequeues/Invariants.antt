use Rattle.std.proofs.Common.{◌≡◌, take}
use Rattle.jh_edn.specs.View.{views}
use Rattle.jh_ops.specs.Operation.{operations}
use Rattle.jh_total_queue.specs.TotalQueue.{dequeues}
use Rattle.jh_total_queue.proofs.dequeued.sorted_dequeues.Given as goal

abbrev pub invariant-loop-op : goal.invariant-loop-op
invariant-loop-op l = views l.values.items ≡ dequeues (operations (take l.op-index l.history))
