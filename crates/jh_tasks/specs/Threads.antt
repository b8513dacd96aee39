-- How many threads may work on the tasks of one call (this project's own).
use Rattle.std.specs.Prelude.{◌≤◌, ℕ}

-- the most there may be
abbrev pub max_threads : ℕ
max_threads = 16

-- A number of threads, the calling one among them.
abbrev pub IsThreadCount : ℕ → Type 0
IsThreadCount threads = (1 ≤ threads) × (threads ≤ max_threads)
