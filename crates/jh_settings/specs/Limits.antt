-- The limits of settings, and the defaults of their numbers (this project's own).
use Rattle.std.specs.Prelude.{ℕ}

-- the greatest budget of a judgement, and the budget where settings have none
abbrev pub max_budget : ℕ
max_budget = 10000000

abbrev pub default_budget : ℕ
default_budget = 100000

-- how many rows the log of a run has where settings do not say it
abbrev pub default_rows : ℕ
default_rows = 4096

-- the greatest seed: the greatest integer of TOML
abbrev pub max_seed : ℕ
max_seed = 9223372036854775807

-- after how many of its calls a client thread ticks, at most
abbrev pub max_tick_every : ℕ
max_tick_every = 10000

-- after how many answered calls an entry of a run's schedule is due, at most
abbrev pub max_due_at : ℕ
max_due_at = 10000

-- the latest moment of a test, in milliseconds: a day
abbrev pub max_time_ms : ℕ
max_time_ms = 86400000
