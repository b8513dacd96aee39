-- The texts of times and durations, and the column of times, byte for byte (this project's own; that a
-- time counts nanoseconds since the test began is jepsen.history's). What is below the last digit is
-- cut off.
use Rattle.std.specs.Prelude.{ℕ, ◌+◌, ◌-ℤ◌, ◌/◌, ◌%◌, ℤ, pos, List, [], ◌++◌, codes, int_le, int_lt}
use Rattle.std.specs.Prelude.{if◌then◌else◌, unsigned_abs, Option, Some, None}
use Rattle.std.specs.Fmt.{decimal}
use Rattle.std.specs.List.{enumerate_from, flat_map}
use Rattle.jh_ops.specs.declared.operation.Op.{Op}
use Rattle.jh_timeline_pages.specs.Pixels.{is_row_drawn, top_of}
use Rattle.jh_timeline_pages.specs.declared.pixels.Frame.{Frame}

-- so many thousandths: with three digits behind a point
abbrev pub thousandths_text : ℕ → List ℕ
thousandths_text thousandths =
    decimal (thousandths / 1000) ++ (codes "." ++ (decimal (thousandths / 100 % 10)
    ++ (decimal (thousandths / 10 % 10) ++ decimal (thousandths % 10))))

-- what stands before a time: a minus where it is below 0
abbrev pub sign_text : ℤ → List ℕ
sign_text time = if int_lt time (pos 0) then codes "-" else []

-- a time of so many nanoseconds: in seconds
abbrev pub seconds_text : ℤ → List ℕ
seconds_text time = sign_text time ++ thousandths_text (unsigned_abs time / 1000000)

-- how many nanoseconds lie between two times, where both are known and the second is not before the
-- first
abbrev pub duration : Option ℤ → Option ℤ → Option ℕ
duration (Some asked) (Some ended) =
    if int_le asked ended then Some (unsigned_abs (ended -ℤ asked)) else None
duration _ _ = None

-- a further line, which says in milliseconds how long something took, if that is known
abbrev pub took_text : Option ℕ → List ℕ
took_text None = []
took_text (Some nanoseconds) =
    codes "\ntook " ++ thousandths_text (nanoseconds / 1000) ++ codes " ms"

-- ---- the column of times

-- where the time of a row stands: above its lower edge, at the right end of the column
abbrev pub time_place : Frame → ℕ → List ℕ
time_place frame index =
    codes "<text class=\"time\" x=\"312\" y=\"" ++ (decimal (top_of frame index + 12) ++ codes "\">")

-- the time of a record in its row, where the record is drawn and has one
abbrev pub row_time_text : Frame → ℕ → Option ℤ → List ℕ
row_time_text frame index None = []
row_time_text frame index (Some time) =
    if is_row_drawn frame index
    then time_place frame index ++ seconds_text time ++ codes "</text>\n"
    else []

-- the times of a history
abbrev pub times_text : Frame → List Op → List ℕ
times_text frame history =
    flat_map (λ numbered. row_time_text frame numbered.0 numbered.1.time) (enumerate_from 0 history)
