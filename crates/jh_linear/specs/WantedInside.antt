-- The set of the values that are wanted at a configuration: proofs rest on it, and no public clause
-- names it.
-- This project's own.
use Rattle.std.specs.Prelude.{◌≡◌, ℕ, ◌<◌, ℤ, true, Option, Some}
use Rattle.std.specs.Ordering.{int_eq}
use Rattle.std.specs.HashSet.{contains}
use Rattle.jh_linear.specs.declared.config.Config.{Config}
use Rattle.jh_linear.specs.declared.sorted_ops.Problem.{Problem}
use Rattle.jh_linear.specs.declared.moves.Source.TheVariants.{Happened, NextOfClass}
use Rattle.jh_linear.specs.declared.wanted.Wanted.{Wanted}
use Rattle.jh_linear.specs.SearchInside.{IsReady, Needs, source_call}

-- the value is in the set
abbrev pub HoldsValue : Wanted → Option ℤ → Type 0
HoldsValue wanted value = (x : ℤ) × (value ≡ Some x) × (contains int_eq wanted.values x ≡ true)

-- no value is lost
abbrev pub HoldsMore : Wanted → Wanted → Type 0
HoldsMore old new = (value : Option ℤ) → HoldsValue old value → HoldsValue new value

-- the set has what the pending operations below an index need
abbrev pub HoldsHappened : Problem → Config → Wanted → ℕ → Type 0
HoldsHappened problem config wanted bound =
    (index : ℕ) (value : Option ℤ) → index < bound
    → Needs (source_call problem config (Happened index)) value → HoldsValue wanted value

-- the set has what the next operation of each class below a bound needs, where it may come next
abbrev pub HoldsUnknown : Problem → Config → Wanted → ℕ → Type 0
HoldsUnknown problem config wanted bound =
    (k : ℕ) (value : Option ℤ) → k < bound → IsReady problem config k
    → Needs (source_call problem config (NextOfClass k)) value → HoldsValue wanted value
