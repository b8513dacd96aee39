use Rattle.std.proofs.Common.{take}
use Rattle.jh_queue.specs.Queue.{finds_none}
use Rattle.jh_queue.specs.QueueInside.{IsFirstWithNone, passages}
use Rattle.jh_queue.proofs.queue.first_without.Given as goal

abbrev pub invariant-loop-out : goal.invariant-loop-out
invariant-loop-out l = IsFirstWithNone (finds_none (passages l.ins) (passages l.outs)) (passages (take l.out-index l.outs)) l.first
