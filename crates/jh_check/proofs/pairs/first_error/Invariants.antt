use Rattle.std.proofs.Common.{take}
use Rattle.jh_ops.specs.Operation.{operations}
use Rattle.jh_check.specs.CounterInside.{IsFirstOf}
use Rattle.jh_check.specs.CounterResults.{errors_in}
use Rattle.jh_check.proofs.pairs.first_error.Given as goal

abbrev pub invariant-loop-pair : goal.invariant-loop-pair
invariant-loop-pair l = IsFirstOf l.first (errors_in (operations l.history) (take l.pair-index l.pairs))
