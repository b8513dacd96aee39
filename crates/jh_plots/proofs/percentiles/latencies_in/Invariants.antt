use Rattle.std.proofs.Common.{◌≡◌, take}
use Rattle.jh_plots.specs.Percentiles as rule
use Rattle.jh_plots.proofs.percentiles.latencies_in.Given as goal

abbrev pub invariant-loop-call : goal.invariant-loop-call
invariant-loop-call l = l.latencies.items ≡ rule.latencies_in l.width (take l.call-index l.calls) l.window
