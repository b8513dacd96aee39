-- What the judge and the checker answer. This project's own.
use Rattle.std.specs.Prelude.{◌≡◌, ◌≢◌, ⊤, ℤ, Option, Some, List}
use Rattle.jh_linear.specs.declared.register.RegOp.{RegOp}
use Rattle.jh_linear.specs.declared.verdict.LinVerdict.{LinVerdict}
use Rattle.jh_linear.specs.declared.verdict.LinVerdict.TheVariants as answer
use Rattle.jh_linear.specs.Order.{IsOrder}
use Rattle.jh_linear.specs.Verdict.{HaveNoOrder}
use Rattle.jh_unique.specs.declared.verdict.UniqueReason.{UniqueReason}
use Rattle.jh_unique.specs.declared.verdict.UniqueReason.TheVariants.{Nowhere, FromOne, Behind}
use Rattle.jh_unique.specs.declared.verdict.UniqueVerdict.{UniqueVerdict}
use Rattle.jh_unique.specs.declared.verdict.UniqueVerdict.TheVariants.{Valid, Invalid, Repeated, WritesInitial}
use Rattle.jh_unique.specs.Unique.{WritesAt, WriteOnce}
use Rattle.jh_unique.specs.Reasons.{HasNoOrigin, AreFromOne, AreTurnedRound}

-- the reason applies
abbrev pub IsUniqueReason : List RegOp → Option ℤ → UniqueReason → Type 0
IsUniqueReason ops initial (Nowhere number) = (value : ℤ) × HasNoOrigin ops initial number value
IsUniqueReason ops initial (FromOne first second) = (value : ℤ) × AreFromOne ops first second value
IsUniqueReason ops initial (Behind first second) = AreTurnedRound ops initial first second

-- The verdict is right: an order, or a reason and no order, where each value is written once; else
-- two operations that write one value, or one that writes the initial value.
abbrev pub IsUniqueVerdict : List RegOp → Option ℤ → UniqueVerdict → Type 0
IsUniqueVerdict ops initial (Valid order) = WriteOnce ops initial × IsOrder ops initial order
IsUniqueVerdict ops initial (Invalid reason) = WriteOnce ops initial
    × IsUniqueReason ops initial reason × HaveNoOrder ops initial
IsUniqueVerdict ops initial (Repeated first second) = (first ≢ second)
    × ((value : ℤ) × WritesAt ops first value × WritesAt ops second value)
IsUniqueVerdict ops initial (WritesInitial number) =
    (value : ℤ) × WritesAt ops number value × (initial ≡ Some value)

-- the answer is a yes or a no
abbrev pub IsDecided : LinVerdict → Type 0
IsDecided (answer.Valid order) = ⊤
IsDecided (answer.Invalid stuck) = ⊤
IsDecided (answer.Unknown steps) = ⊥
