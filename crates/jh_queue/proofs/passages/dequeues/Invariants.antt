use Rattle.std.proofs.Common.{◌≡◌, take}
use Rattle.jh_ops.specs.Operation.{operations}
use Rattle.jh_queue.specs.Queue.{passages_out}
use Rattle.jh_queue.specs.QueueInside.{passages}
use Rattle.jh_queue.proofs.passages.dequeues.Given as goal

abbrev pub invariant-loop-pair : goal.invariant-loop-pair
invariant-loop-pair l = passages l.held.items ≡ passages_out (operations l.history) (take l.pair-index l.pairs)
