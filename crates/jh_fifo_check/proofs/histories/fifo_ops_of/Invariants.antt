use Rattle.std.proofs.Common.{◌≡◌, map, take}
use Rattle.jh_ops.specs.Operation.{operations}
use Rattle.jh_fifo_check.specs.FifoHistories.{fifo_op_of, values_through}
use Rattle.jh_fifo_check.proofs.histories.fifo_ops_of.Given as goal

abbrev pub invariant-loop-pair : goal.invariant-loop-pair
invariant-loop-pair l = l.ops.items ≡ map (fifo_op_of (values_through (operations l.history) l.pairs) (operations l.history)) (take l.pair-index l.pairs)
