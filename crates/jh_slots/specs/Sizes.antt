-- How many rows a log may have (this project's own).
use Rattle.std.specs.Prelude.{ℕ, ◌≤◌}
use Rattle.jh_slots.specs.declared.answers.SlotsError.{SlotsError}
use Rattle.jh_slots.specs.declared.answers.SlotsError.TheVariants.{BadSize, OutOfMemory}

-- how many rows a log has, at most
abbrev pub max_log_rows : ℕ
max_log_rows = 65536

-- how many rows a claim has, at most
abbrev pub max_claimed : ℕ
max_claimed = 255

-- how many words a row has
abbrev pub row_words : ℕ
row_words = 5

abbrev pub IsSize : ℕ → Type 0
IsSize rows = (1 ≤ rows) × (rows ≤ max_log_rows)

-- why a log of so many rows is not made: its size, else memory
abbrev pub RefusesSize : ℕ → SlotsError → Type 0
RefusesSize rows BadSize = ¬ (IsSize rows)
RefusesSize rows OutOfMemory = IsSize rows
