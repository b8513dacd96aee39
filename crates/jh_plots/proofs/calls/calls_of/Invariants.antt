use Rattle.std.proofs.Common.{take}
use Rattle.jh_ops.specs.Operation.{operations}
use Rattle.jh_plots.proofs.CallLemmas.{Numbered}
use Rattle.jh_plots.proofs.calls.calls_of.Given as goal

abbrev pub invariant-loop-pair : goal.invariant-loop-pair
invariant-loop-pair l = Numbered (operations l.history) l.times.end (take l.pair-index l.pairs) l.functions l.calls.items
