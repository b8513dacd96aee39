-- The numbers beside the axes (this project's own).
use Rattle.std.specs.Prelude.{ℕ, ◌+◌, ◌*◌, ◌/◌, ◌%◌, ◌^◌, ◌==◌, List, map, if◌then◌else◌}
use Rattle.std.specs.List.{range_with_len}
use Rattle.jh_plots.specs.Axes.{last_row, pixel_of, round_up}
use Rattle.jh_plots.specs.Times.{time_pixel}
use Rattle.jh_plots.specs.declared.plot.Tick.{Tick}

-- ---- time, in milliseconds

abbrev pub NS_PER_MS : ℕ
NS_PER_MS = 1000000

-- from one number to the next: the least round number of milliseconds of which at most ten reach no
-- further than the end, so that eleven of them reach further
abbrev pub time_step_ms : ℕ → ℕ
time_step_ms end = round_up (end / (11 * NS_PER_MS) + 1)

abbrev pub time_tick : ℕ → ℕ → ℕ → Tick
time_tick end step number =
    record { pixel = time_pixel end (number * step * NS_PER_MS); value = number * step }

-- every step from 0 on, up to the end
abbrev pub time_ticks : ℕ → List Tick
time_ticks end =
    let step = time_step_ms end in
    map (time_tick end step) (range_with_len 0 (end / (step * NS_PER_MS) + 1))

-- ---- latencies, in nanoseconds

abbrev pub latency_tick : ℕ → ℕ → Tick
latency_tick decades decade =
    record { pixel = pixel_of last_row decade decades; value = 10 ^ (5 + decade) }

-- each power of ten from the first latency of the axis to its last
abbrev pub latency_ticks : ℕ → List Tick
latency_ticks decades = map (latency_tick decades) (range_with_len 0 (decades + 1))

-- ---- rates, in calls a second

-- into how many equal parts the axis is divided: five, or else two, or else one
abbrev pub parts_of : ℕ → ℕ
parts_of top = if top % 5 == 0 then 5 else if top % 2 == 0 then 2 else 1

abbrev pub rate_tick : ℕ → ℕ → ℕ → Tick
rate_tick top parts part =
    record { pixel = pixel_of last_row part parts; value = part * (top / parts) }

-- where each part begins, and the end of the last
abbrev pub rate_ticks : ℕ → List Tick
rate_ticks top =
    let parts = parts_of top in map (rate_tick top parts) (range_with_len 0 (parts + 1))
