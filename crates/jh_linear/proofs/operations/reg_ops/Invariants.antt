use Rattle.std.proofs.Common.{take}
use Rattle.jh_ops.specs.Operation.{operations}
use Rattle.jh_linear.specs.Operations.{AreRegOps}
use Rattle.jh_linear.proofs.operations.reg_ops.Given as goal

abbrev pub invariant-loop-pair : goal.invariant-loop-pair
invariant-loop-pair l = AreRegOps l.object (operations l.history) (take l.pair-index l.pairs) l.ops.items
