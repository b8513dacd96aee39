-- Places of the history as times.
use Rattle.std.specs.Prelude.{ℕ, ◌^◌, Option, Some, None}
use Rattle.jh_fifo.specs.Order.{IsOverBefore}

-- past every place of a history
abbrev pub never : ℕ
never = 2 ^ 64

-- the end of an operation, or past every place
abbrev pub end_or_never : Option ℕ → ℕ
end_or_never None = never
end_or_never (Some end) = end

-- There is no end before this place of the history.
abbrev pub LastsTo : Option ℕ → ℕ → Type 0
LastsTo ended at = IsOverBefore ended at → ⊥
