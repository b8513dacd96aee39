-- What is kept of axes. Proofs rest on it, and no public clause names it.
use Rattle.std.specs.Prelude.{◌<◌, ◌≤◌, ◌^◌, IfSome}
use Rattle.jh_plots.specs.Calls.{latency}
use Rattle.jh_plots.specs.Latencies.{last_latency}
use Rattle.jh_plots.specs.declared.calls.TimedCall.{TimedCall}
use Rattle.jh_plots.specs.declared.scale.Scale.{Scale}

-- the axes go somewhere, and their ends are numbers of the program
pub record IsScale (scale : Scale) : Type 0 where
  pub end : 1 ≤ scale.end
  pub fits : scale.end < 2 ^ 63
  pub decades : 1 ≤ scale.decades
  pub few : scale.decades ≤ 14
  pub top : 1 ≤ scale.top

-- the call is on the axes: neither its times nor its latency are behind their ends
pub record IsPlotted (scale : Scale) (call : TimedCall) : Type 0 where
  pub asked : call.asked ≤ scale.end
  pub ended : IfSome call.ended (λ ended. ended ≤ scale.end)
  pub latency : latency scale.end call ≤ last_latency scale.decades
