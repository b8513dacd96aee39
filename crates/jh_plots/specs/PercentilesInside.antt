-- What is kept of percentiles. Proofs rest on it, and no public clause names it.
use Rattle.std.specs.Prelude.{ℕ, ◌<◌, ◌≤◌, ◌^◌, List, All}
use Rattle.jh_plots.specs.Latencies.{last_latency}
use Rattle.jh_plots.specs.declared.scale.Scale.{Scale}

-- these latencies are on the axis, and numbers of the program
pub record IsOnAxis (scale : Scale) (latency : ℕ) : Type 0 where
  pub within : latency ≤ last_latency scale.decades
  pub fits : latency < 2 ^ 63

abbrev pub AreRowsOnAxis : Scale → List ℕ → Type 0
AreRowsOnAxis scale latencies = All (IsOnAxis scale) latencies
