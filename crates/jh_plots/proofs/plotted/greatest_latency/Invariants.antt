use Rattle.std.proofs.Common.{◌≡◌, map, take}
use Rattle.jh_plots.specs.Calls.{latency}
use Rattle.jh_plots.specs.Times.{greatest}
use Rattle.jh_plots.proofs.plotted.greatest_latency.Given as goal

abbrev pub invariant-loop-call : goal.invariant-loop-call
invariant-loop-call l = l.most ≡ greatest (map (latency l.end) (take l.call-index l.calls))
