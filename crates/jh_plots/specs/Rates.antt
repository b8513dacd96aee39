-- Rates: how many calls a second ended in each window of time (this project's own; the rate by how calls
-- ended is what Jepsen's checker/perf draws as rate).
use Rattle.std.specs.Prelude.{ℕ, ◌+◌, ◌*◌, ◌/◌, ◌^◌, Bool, false, ◌==◌, ◌&&◌, max, min, List, [], ◌∷◌}
use Rattle.std.specs.Prelude.{map, count_by}
use Rattle.std.specs.List.{flat_map, range_with_len}
use Rattle.std.specs.Int.{div_ceil}
use Rattle.std.specs.Option.{option_map_or}
use Rattle.jh_ops.specs.Operation.{is_kind}
use Rattle.jh_ops.specs.declared.operation.Kind.{Kind}
use Rattle.jh_plots.specs.Axes.{last_row, pixel_of, round_up}
use Rattle.jh_plots.specs.Times.{greatest, time_pixel}
use Rattle.jh_plots.specs.declared.calls.TimedCall.{TimedCall}
use Rattle.jh_plots.specs.declared.plot.Rate.{Rate}
use Rattle.jh_plots.specs.declared.rates.Counts.{Counts}
use Rattle.jh_plots.specs.declared.scale.Scale.{Scale}

-- ---- windows

-- how long each of so many windows is that reach the end, in nanoseconds; at least a second
abbrev pub width_of : ℕ → ℕ → ℕ
width_of windows end = max (div_ceil end windows) (10 ^ 9)

-- the windows up to the end, by their numbers from 0
abbrev pub windows_of : ℕ → ℕ → List ℕ
windows_of width end = range_with_len 0 (end / width + 1)

-- the pixel of the middle of a window
abbrev pub middle_pixel : ℕ → ℕ → ℕ → ℕ
middle_pixel width end window = time_pixel end (min end (window * width + width / 2))

-- ---- counts

abbrev pub RATE_WINDOWS : ℕ
RATE_WINDOWS = 100

-- a call ended in the window
abbrev pub is_ended_in : ℕ → ℕ → TimedCall → Bool
is_ended_in width window call =
    option_map_or (λ ended. ended / width == window) call.ended false

-- how many calls ended in the window in this way
abbrev pub count_in : ℕ → List TimedCall → Kind → ℕ → ℕ
count_in width calls kind window =
    count_by (λ call. is_kind kind call.kind && is_ended_in width window call) calls

abbrev pub counts_in : ℕ → List TimedCall → ℕ → Counts
counts_in width calls window =
    record {
      ok = count_in width calls Kind.Ok window;
      fail = count_in width calls Kind.Fail window;
      info = count_in width calls Kind.Info window;
    }

-- the counts of each window
abbrev pub counts_of : ℕ → List TimedCall → List Counts
counts_of end calls =
    let width = width_of RATE_WINDOWS end in map (counts_in width calls) (windows_of width end)

-- the greatest of these counts
abbrev pub most_of : List Counts → ℕ
most_of rows = greatest (flat_map (λ row. row.ok ∷ row.fail ∷ row.info ∷ []) rows)

-- ---- the axis, in calls a second

-- where it ends: at the least round number that is not below the rate of the greatest count
abbrev pub rate_axis_top : ℕ → ℕ → ℕ
rate_axis_top width most = round_up (div_ceil (most * 10 ^ 9) width)

-- the pixel of a count
abbrev pub rate_pixel : ℕ → ℕ → ℕ → ℕ
rate_pixel width top count = pixel_of last_row (count * 10 ^ 9) (width * top)

-- the row of a window
abbrev pub rate_row : ℕ → Scale → ℕ → Counts → Rate
rate_row width scale window counts =
    record {
      x = middle_pixel width scale.end window;
      ok = rate_pixel width scale.top counts.ok;
      fail = rate_pixel width scale.top counts.fail;
      info = rate_pixel width scale.top counts.info;
    }

-- a row for each window
abbrev pub rates_of : Scale → List TimedCall → List Rate
rates_of scale calls =
    let width = width_of RATE_WINDOWS scale.end in
    map (λ window. rate_row width scale window (counts_in width calls window))
    (windows_of width scale.end)
