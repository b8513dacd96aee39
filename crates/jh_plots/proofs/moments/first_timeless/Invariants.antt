use Rattle.std.proofs.Common.{take}
use Rattle.jh_ops.specs.Operation.{operations}
use Rattle.jh_plots.specs.Times.{HaveTimes}
use Rattle.jh_plots.proofs.moments.first_timeless.Given as goal

abbrev pub invariant-loop-index : goal.invariant-loop-index
invariant-loop-index l = HaveTimes (take l.index (operations l.history))
