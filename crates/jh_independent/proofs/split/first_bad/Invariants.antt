use Rattle.std.proofs.Common.{take}
use Rattle.jh_ops.specs.Operation.{operations}
use Rattle.jh_independent.specs.Keys.{AreTuples}
use Rattle.jh_independent.proofs.split.first_bad.Given as goal

abbrev pub invariant-loop-place : goal.invariant-loop-place
invariant-loop-place l = AreTuples (operations (take l.place l.history))
