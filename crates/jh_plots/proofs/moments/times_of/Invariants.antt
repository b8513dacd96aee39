use Rattle.jh_ops.specs.Operation.{operations}
use Rattle.jh_plots.proofs.TimeLemmas.{Timed}
use Rattle.jh_plots.proofs.moments.times_of.Given as goal

abbrev pub invariant-loop-op : goal.invariant-loop-op
invariant-loop-op l = Timed (operations l.history) l.op-index l.latest l.moments.items
