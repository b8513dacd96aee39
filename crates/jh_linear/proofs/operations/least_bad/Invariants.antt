use Rattle.std.proofs.Common.{take}
use Rattle.jh_ops.specs.Operation.{operations}
use Rattle.jh_linear.specs.Operations.{IsLeastBad}
use Rattle.jh_linear.proofs.operations.least_bad.Given as goal

abbrev pub invariant-loop-pair : goal.invariant-loop-pair
invariant-loop-pair l = IsLeastBad l.object (operations l.history) (take l.pair-index l.pairs) l.least
