-- The numbers beside the axes of a plot, byte for byte (this project's own). Units are those of the International System.
use Rattle.std.specs.Prelude.{ℕ, List, [], ◌++◌, ◌/◌, ◌%◌, ◌==◌, codes, if◌then◌else◌}
use Rattle.std.specs.Fmt.{decimal}

-- thousandths of a second behind the point, with no zero at their end; nothing where there are none
abbrev pub decimals_text : ℕ → List ℕ
decimals_text thousandths =
    if thousandths == 0 then []
    else if thousandths % 100 == 0 then codes "." ++ decimal (thousandths / 100)
    else if thousandths % 10 == 0
    then codes "." ++ (decimal (thousandths / 100) ++ decimal (thousandths / 10 % 10))
    else codes "." ++ (decimal (thousandths / 100)
    ++ (decimal (thousandths / 10 % 10) ++ decimal (thousandths % 10)))

-- a time of so many milliseconds: in seconds, with as many decimals as it has
abbrev pub time_text : ℕ → List ℕ
time_text milliseconds =
    decimal (milliseconds / 1000) ++ decimals_text (milliseconds % 1000) ++ codes " s"

-- a latency of so many nanoseconds: in the largest unit of which it is a whole number
abbrev pub latency_text : ℕ → List ℕ
latency_text nanoseconds =
    if nanoseconds % 1000000000 == 0 then decimal (nanoseconds / 1000000000) ++ codes " s"
    else if nanoseconds % 1000000 == 0 then decimal (nanoseconds / 1000000) ++ codes " ms"
    else if nanoseconds % 1000 == 0 then decimal (nanoseconds / 1000) ++ codes " &#181;s"
    else decimal nanoseconds ++ codes " ns"

-- a rate of so many calls a second
abbrev pub rate_text : ℕ → List ℕ
rate_text calls = decimal calls ++ codes "/s"
