-- Points of calls (this project's own; a point for each call, by its time and latency, is what Jepsen's
-- checker/perf draws as latency-raw).
use Rattle.std.specs.Prelude.{◌≡◌, ◌≢◌, List, All}
use Rattle.std.specs.List.{Any, AllPairs}
use Rattle.jh_plots.specs.Calls.{latency}
use Rattle.jh_plots.specs.Latencies.{IsLatencyPixel}
use Rattle.jh_plots.specs.Times.{time_pixel}
use Rattle.jh_plots.specs.declared.calls.TimedCall.{TimedCall}
use Rattle.jh_plots.specs.declared.plot.Point.{Point}
use Rattle.jh_plots.specs.declared.scale.Scale.{Scale}

-- the point of a call: where it was asked for, and how long it took
pub record IsPointOfCall (scale : Scale) (call : TimedCall) (point : Point) : Type 0 where
  pub x : point.x ≡ time_pixel scale.end call.asked
  pub y : IsLatencyPixel scale.decades (latency scale.end call) point.y
  pub kind : point.kind ≡ call.kind

-- A point for each call, and no other; no two of them are one.
pub record ArePointsOf (scale : Scale) (calls : List TimedCall) (points : List Point) : Type 0 where
  pub each : All (λ point. Any (λ call. IsPointOfCall scale call point) calls) points
  pub every : All (λ call. Any (λ point. IsPointOfCall scale call point) points) calls
  pub once : AllPairs (λ one other. one ≢ other) points
