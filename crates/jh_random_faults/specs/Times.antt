-- When random faults begin and end (this project's own): within a span, which is counted in answered
-- calls or in milliseconds.
use Rattle.std.specs.Prelude.{ℕ, ◌+◌, ◌-◌, ◌/◌, ◌%◌, ◌==◌, Bool, not}
use Rattle.jh_random_faults.specs.declared.draws.Draw.{Draw}

-- two candidates in three heal, by their first random number: they withdraw all faults that are
-- active then
abbrev pub heals : ℕ → Bool
heals number = not ((number % 3) == 0)

-- when a candidate heals, where it does: when a quarter of the span is left
abbrev pub heal_within : ℕ → ℕ
heal_within span = span - span / 4

-- a fault begins before that
abbrev pub begin_within : ℕ → Draw → ℕ
begin_within span d = d.begin % heal_within span

-- and ends later, at the latest when the span is over
abbrev pub end_within : ℕ → Draw → ℕ
end_within span d = begin_within span d + 1 + d.length % (span - begin_within span d)

-- one fault in four stays to the end
abbrev pub stays : Draw → Bool
stays d = (d.stay % 4) == 0
