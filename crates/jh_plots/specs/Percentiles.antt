-- Percentiles of latencies in each window of time, by nearest rank (the percentile of a list is the value
-- at the place ceil(percent * length / 100) of the sorted list, from 1 on; Jepsen's checker/perf draws
-- quantiles of windows as latency-quantiles).
use Rattle.std.specs.Prelude.{◌≡◌, ℕ, ◌-◌, ◌*◌, ◌/◌, ◌==◌, nat_lt, List, filter, length}
use Rattle.std.specs.Prelude.{Option, None, option_map, if◌then◌else◌, slice_index}
use Rattle.std.specs.List.{AllZip, filter_map}
use Rattle.std.specs.List.Sorted.{IsNonDecreasing, IsPermutation}
use Rattle.std.specs.Int.{div_ceil}
use Rattle.jh_plots.specs.Latencies.{IsLatencyPixel}
use Rattle.jh_plots.specs.Rates.{middle_pixel, width_of, windows_of}
use Rattle.jh_plots.specs.declared.calls.TimedCall.{TimedCall}
use Rattle.jh_plots.specs.declared.plot.Percentiles.{Percentiles}
use Rattle.jh_plots.specs.declared.scale.Scale.{Scale}

abbrev pub PERCENTILE_WINDOWS : ℕ
PERCENTILE_WINDOWS = 30

-- how long a call took that was completed
abbrev pub known_latency : TimedCall → Option ℕ
known_latency call = option_map (λ ended. ended - call.asked) call.ended

-- the same of one that was asked for in the window
abbrev pub latency_within : ℕ → ℕ → TimedCall → Option ℕ
latency_within width window call =
    if call.asked / width == window then known_latency call else None

-- the latencies of the completed calls that were asked for in the window
abbrev pub latencies_in : ℕ → List TimedCall → ℕ → List ℕ
latencies_in width calls window = filter_map (latency_within width window) calls

-- the percentile of a sorted list
abbrev pub nearest_rank : ℕ → List ℕ → ℕ
nearest_rank percent sorted = slice_index sorted (div_ceil (percent * length sorted) 100 - 1)

-- the row of a window that has these latencies
pub record IsRowOf (width : ℕ) (scale : Scale) (window : ℕ) (latencies : List ℕ)
    (row : Percentiles) : Type 0 where
  pub sorted : List ℕ
  pub permutation : IsPermutation latencies sorted
  pub ascends : IsNonDecreasing sorted
  pub x : row.x ≡ middle_pixel width scale.end window
  pub p50 : IsLatencyPixel scale.decades (nearest_rank 50 sorted) row.p50
  pub p95 : IsLatencyPixel scale.decades (nearest_rank 95 sorted) row.p95
  pub p99 : IsLatencyPixel scale.decades (nearest_rank 99 sorted) row.p99
  pub greatest : IsLatencyPixel scale.decades (nearest_rank 100 sorted) row.greatest

-- a row for each window with a latency, in order
abbrev pub ArePercentilesOf : Scale → List TimedCall → List Percentiles → Type 0
ArePercentilesOf scale calls rows =
    let width = width_of PERCENTILE_WINDOWS scale.end in
    AllZip (λ window. IsRowOf width scale window (latencies_in width calls window))
    (filter (λ window. nat_lt 0 (length (latencies_in width calls window)))
    (windows_of width scale.end)) rows
