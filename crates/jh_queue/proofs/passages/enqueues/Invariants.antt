use Rattle.std.proofs.Common.{◌≡◌, take}
use Rattle.jh_ops.specs.Operation.{operations}
use Rattle.jh_queue.specs.Queue.{passages_in}
use Rattle.jh_queue.specs.QueueInside.{passages}
use Rattle.jh_queue.proofs.passages.enqueues.Given as goal

abbrev pub invariant-loop-pair : goal.invariant-loop-pair
invariant-loop-pair l = passages l.held.items ≡ passages_in (operations l.history) (take l.pair-index l.pairs)
