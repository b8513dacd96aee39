-- How great the numbers of options may be (this project's own).
use Rattle.std.specs.Prelude.{ℕ}

-- a number of candidates, or the number of one
abbrev pub max_candidates : ℕ
max_candidates = 9223372036854775807

-- how many random faults a candidate has
abbrev pub max_faults : ℕ
max_faults = 256

-- the longest time over which calls are spread, in milliseconds: a day
abbrev pub max_spread_ms : ℕ
max_spread_ms = 86400000
