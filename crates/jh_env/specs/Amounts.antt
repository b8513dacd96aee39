-- What a fault is to do to its links, with an amount that may be any integer, and which amounts are
-- in their ranges (this project's own).
use Rattle.std.specs.Prelude.{⊤, ℕ, ℤ, pos, negsuc, ◌&&◌, nat_le, if◌then◌else◌}
use Rattle.std.specs.Prelude.{Option, Some, None, option_map}
use Rattle.jh_tables.specs.declared.faults.LinkFault.{LinkFault}
use Rattle.jh_tables.specs.Faults.{IsSlowAmount, IsLossAmount, IsFixAmount}
use Rattle.jh_tables.specs.Limits.{max_fixed_ms, max_loss, max_slowed_ms}
use Rattle.jh_env.specs.declared.amounts.GivenLinkFault.{GivenLinkFault}

-- the amount is in its range
abbrev pub IsLinkAmount : LinkFault → Type 0
IsLinkAmount LinkFault.Cut = ⊤
IsLinkAmount (LinkFault.Slow ms) = IsSlowAmount ms
IsLinkAmount (LinkFault.Loss level) = IsLossAmount level
IsLinkAmount (LinkFault.Fix ms) = IsFixAmount ms

-- An integer from the least to the most. With the limits below it decides `IsSlowAmount`,
-- `IsLossAmount` and `IsFixAmount` of jh_tables: `judged_slow`, `judged_loss` and `judged_fix` in
-- proofs/AmountLemmas.antt hold both ways.
abbrev pub amount_within : ℕ → ℕ → ℤ → Option ℕ
amount_within least most (pos n) = if nat_le least n && nat_le n most then Some n else None
amount_within least most (negsuc n) = None

-- the fault that is given, if its amount is in its range
abbrev pub link_fault_of : GivenLinkFault → Option LinkFault
link_fault_of GivenLinkFault.Cut = Some LinkFault.Cut
link_fault_of (GivenLinkFault.Slow ms) =
    option_map LinkFault.Slow (amount_within 1 max_slowed_ms ms)
link_fault_of (GivenLinkFault.Loss level) =
    option_map LinkFault.Loss (amount_within 1 max_loss level)
link_fault_of (GivenLinkFault.Fix ms) = option_map LinkFault.Fix (amount_within 0 max_fixed_ms ms)
