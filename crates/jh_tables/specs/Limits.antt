-- The limits of tables, of cells at the start and of faults (this project's own).
use Rattle.std.specs.Prelude.{ℕ, ◌+◌, ◌*◌, ◌^◌}

-- how many nodes there are, at most
abbrev pub max_nodes : ℕ
max_nodes = 64

-- how many faults can be put and not taken, at most
abbrev pub max_laid : ℕ
max_laid = 256

-- the greatest level of loss, at the start and of a fault: a level is one twentieth
abbrev pub max_loss : ℕ
max_loss = 20

-- the most milliseconds by which a message is late at the start
abbrev pub max_start_delay_ms : ℕ
max_start_delay_ms = 60000

-- the most milliseconds by which a clock is off at the start, either way
abbrev pub max_start_offset_ms : ℕ
max_start_offset_ms = 10 ^ 12

-- the most milliseconds by which a fault slows a link
abbrev pub max_slowed_ms : ℕ
max_slowed_ms = 60000

-- the most milliseconds at which a fault fixes the delay of a link
abbrev pub max_fixed_ms : ℕ
max_fixed_ms = 60000

-- the most milliseconds by which a fault moves a clock, either way
abbrev pub max_bumped_ms : ℕ
max_bumped_ms = 10 ^ 9

-- the most milliseconds by which a message is late: a minute at the start or of a fix, and one more
-- for each fault
abbrev pub max_delay_ms : ℕ
max_delay_ms = max_start_delay_ms + max_laid * max_slowed_ms

-- the most milliseconds by which a clock is off, either way: what it may be off at the start, and
-- what each fault may move it
abbrev pub max_offset_ms : ℕ
max_offset_ms = max_start_offset_ms + max_laid * max_bumped_ms
