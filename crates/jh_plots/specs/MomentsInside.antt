-- What is kept of times. Proofs rest on it, and no public clause names it.
use Rattle.std.specs.Prelude.{◌≡◌, ℕ, ◌<◌, ◌≤◌, ◌^◌, List, length, slice_index}
use Rattle.jh_ops.specs.Operation.{Operation}
use Rattle.jh_plots.specs.Times.{time_axis_end, record_moment}
use Rattle.jh_plots.specs.declared.moments.Times.{Times}

-- the moment of each record, none of them behind the end
pub record AreTimesOf (history : List Operation) (times : Times) : Type 0 where
  pub long : length times.moments.items ≡ length history
  pub each : (index : ℕ) → index < length history
      → slice_index times.moments.items index ≡ record_moment history index
  pub end : times.end ≡ time_axis_end history
  pub some : 1 ≤ times.end
  pub fits : times.end < 2 ^ 63
  pub within : (index : ℕ) → slice_index times.moments.items index ≤ times.end
