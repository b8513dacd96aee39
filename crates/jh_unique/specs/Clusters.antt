-- Parts of orders, and runs of clusters: proofs rest on it, and no public clause names it.
use Rattle.std.specs.Prelude.{◌≡◌, ◌⊎◌, ℕ, zero, suc, ◌≤◌, ℤ, Option, None, List, true}
use Rattle.jh_linear.specs.declared.register.RegCall.TheVariants.{Read}
use Rattle.jh_linear.specs.declared.register.RegOp.{RegOp}
use Rattle.jh_linear.specs.Order.{op_at, IsPossible, Precedes, has, StandBefore, HasNoneTwice, IsLegalFrom}
use Rattle.jh_unique.specs.Unique.{reg_call_at}
use Rattle.jh_unique.specs.Reasons.{HandsOnBy}

-- a read of nil, which matches any value
abbrev pub ReadsNil : List RegOp → ℕ → Type 0
ReadsNil ops number = reg_call_at ops number ≡ Read None

-- What stands in the order keeps its times among itself.
abbrev pub KeepsTimes : List RegOp → List ℕ → Type 0
KeepsTimes ops order = (first second : ℕ) → Precedes ops first second → has order first ≡ true
    → has order second ≡ true → StandBefore order first second

-- an order of some operations, of which others may be missing
pub record IsPart (ops : List RegOp) (initial : Option ℤ) (order : List ℕ) : Type 0 where
  pub distinct : HasNoneTwice order
  pub possible : (number : ℕ) → has order number ≡ true → IsPossible ops number
  pub times : KeepsTimes ops order
  pub last : Option ℤ
  pub runs : IsLegalFrom ops initial order last

-- A cluster's operations run, one after another: those of the start from the initial value, all
-- others from any value, since a write stands first.
abbrev pub IsRunOf : List RegOp → Option ℤ → ℕ → List ℕ → Type 0
IsRunOf ops initial zero numbers = (last : Option ℤ) × IsLegalFrom ops initial numbers last
IsRunOf ops initial (suc write) numbers =
    (value : Option ℤ) → (last : Option ℤ) × IsLegalFrom ops value numbers last

-- The first operation hands on to the second one, or was invoked no later (two reads of one value).
abbrev pub AreInStep : List RegOp → ℕ → ℕ → Type 0
AreInStep ops first second = ((between : List ℕ) × HandsOnBy ops first between second)
    ⊎ ((op_at ops first).invoked ≤ (op_at ops second).invoked)
