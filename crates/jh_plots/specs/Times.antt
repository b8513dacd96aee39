-- When records were made (jepsen.history: the `:time` of an operation is in nanoseconds since the test
-- began), and where a time is on its axis.
use Rattle.std.specs.Prelude.{◌≡◌, ℕ, ◌+◌, ℤ, pos, max, List, map, fold, length, take, slice_get}
use Rattle.std.specs.Prelude.{All, IsSome, Option, Some, None, option_map, if◌then◌else◌, nat_lt}
use Rattle.jh_ops.specs.Operation.{Operation}
use Rattle.jh_plots.specs.Axes.{last_column, pixel_of}

-- ---- times that are there

-- each record has a time
abbrev pub HaveTimes : List Operation → Type 0
HaveTimes history = All (λ op. IsSome op.time) history

-- the first record that has none is at this index
pub record IsFirstTimeless (history : List Operation) (index : ℕ) : Type 0 where
  pub timeless : option_map (λ op. op.time) (slice_get history index) ≡ Some None
  pub before : HaveTimes (take index history)

-- ---- moments

-- the nanoseconds of a time, of which one below 0 has none
abbrev pub nanoseconds : Option ℤ → ℕ
nanoseconds (Some (pos time)) = time
nanoseconds _ = 0

-- the greatest number of these, and 0 of none
abbrev pub greatest : List ℕ → ℕ
greatest numbers = fold max 0 numbers

-- the greatest time of records
abbrev pub latest : List Operation → ℕ
latest records = greatest (map (λ op. nanoseconds op.time) records)

-- When the record at an index was made. A time that goes back counts as the one before it, so it is
-- the greatest up to there.
abbrev pub record_moment : List Operation → ℕ → ℕ
record_moment history index = latest (take (index + 1) history)

-- ---- the axis

-- where it ends: at the greatest time, and not before 1 ns
abbrev pub time_axis_end : List Operation → ℕ
time_axis_end history = max 1 (latest history)

-- the pixel of a time
abbrev pub time_pixel : ℕ → ℕ → ℕ
time_pixel end time = pixel_of last_column time end

-- the time of the record at an index, and the end for one that the history does not have
abbrev pub moment_or_end : List Operation → ℕ → ℕ
moment_or_end history index =
    if nat_lt index (length history) then record_moment history index else time_axis_end history
