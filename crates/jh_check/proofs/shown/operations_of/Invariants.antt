use Rattle.std.proofs.Common.{take}
use Rattle.jh_ops.specs.Operation.{operations}
use Rattle.jh_check.specs.Shown.{AreOperationsAt}
use Rattle.jh_check.proofs.shown.operations_of.Given as goal

abbrev pub invariant-loop-number : goal.invariant-loop-number
invariant-loop-number l = AreOperationsAt (operations l.history) l.pairs (take l.number-index l.numbers) l.shown.items
