-- The limits of a world and of a run (this project's own).
use Rattle.std.specs.Prelude.{ℕ}

-- how many events a world has, at most
abbrev pub max_events : ℕ
max_events = 65536

-- how many entries a schedule has, at most; that of a test: `max_test_entries` (jh_test_parts)
abbrev pub max_entries : ℕ
max_entries = 1024

-- how many rows the log of a run on threads has, at most
abbrev pub max_rows : ℕ
max_rows = 65536
