-- The axis of latencies, in nanoseconds (this project's own; it is logarithmic, as that of Jepsen's
-- checker/perf is).
use Rattle.std.specs.Prelude.{◌≡◌, ℕ, ◌+◌, ◌*◌, ◌^◌, ◌≤◌, ◌<◌, max}
use Rattle.jh_plots.specs.Axes.{last_row, pixel_of}

-- a hundred times the decimal logarithm of a number, rounded down
pub record IsHundredths (number hundredths : ℕ) : Type 0 where
  pub reached : 10 ^ hundredths ≤ number ^ 100
  pub below : number ^ 100 < 10 ^ (hundredths + 1)

-- where the axis begins: 0.1 ms, of which 5 is the decimal logarithm
abbrev pub FIRST_LATENCY_NS : ℕ
FIRST_LATENCY_NS = 100000

-- How far up the axis a latency is, in hundredths of a decade. What is below the first is drawn there.
abbrev pub IsPosition : ℕ → ℕ → Type 0
IsPosition latency position = IsHundredths (max FIRST_LATENCY_NS latency) (500 + position)

-- the pixel of a latency on an axis of so many decades
abbrev pub IsLatencyPixel : ℕ → ℕ → ℕ → Type 0
IsLatencyPixel decades latency pixel =
    (position : ℕ) × IsPosition latency position
    × (pixel ≡ pixel_of last_row position (100 * decades))

-- where an axis of so many decades ends
abbrev pub last_latency : ℕ → ℕ
last_latency decades = 10 ^ (5 + decades)

-- The decades of the axis: the least number, from 1 on, with which it reaches this latency.
pub record AreDecades (greatest decades : ℕ) : Type 0 where
  pub some : 1 ≤ decades
  pub enough : greatest ≤ last_latency decades
  pub least : (fewer : ℕ) → 1 ≤ fewer → greatest ≤ last_latency fewer → decades ≤ fewer
