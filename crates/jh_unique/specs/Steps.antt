-- What the steps of a walk answer: proofs rest on it, and no public clause names it.
use Rattle.std.specs.Prelude.{◌≡◌, ℕ, ℤ, Bool, true, false, Option, Some, List, length}
use Rattle.std.specs.Prelude.{slice_index_or}
use Rattle.jh_linear.specs.declared.register.RegCall.TheVariants.{Read, Cas}
use Rattle.jh_linear.specs.declared.register.RegOp.{RegOp}
use Rattle.jh_unique.specs.declared.behind.Next.{Next}
use Rattle.jh_linear.specs.Order.{has, StandBefore, HasNoneTwice}
use Rattle.jh_unique.specs.Unique.{GivesValue, reg_call_at, MustStand, HasValue, IsOfCluster}
use Rattle.jh_unique.specs.Clusters.{AreInStep, IsRunOf}
use Rattle.jh_unique.specs.Walk.{IsCasFrom}

-- what must stand is marked, and nothing else
pub record AreStandingMarks (ops : List RegOp) (there : List Bool) : Type 0 where
  pub count : length there ≡ length ops
  pub marked : (number : ℕ) → slice_index_or there number false ≡ true → MustStand ops number
  pub all : (number : ℕ) → MustStand ops number → slice_index_or there number false ≡ true

-- the operation must stand, and reads this value
abbrev pub IsReadOf : List RegOp → ℤ → ℕ → Type 0
IsReadOf ops value number = MustStand ops number × (reg_call_at ops number ≡ Read (Some value))

-- the operation must stand, and is a compare-and-set from the value
abbrev pub IsNextFrom : List RegOp → ℤ → ℕ → Type 0
IsNextFrom ops value number = MustStand ops number × IsCasFrom ops number value

-- the only one, and what it writes
abbrev pub IsNextOf : List RegOp → ℤ → Next → Type 0
IsNextOf ops value next = MustStand ops next.number
    × (reg_call_at ops next.number ≡ Cas value next.new.int)
    × ((other : ℕ) → IsNextFrom ops value other → other ≡ next.number)

-- All of a cluster that must stand, in its order.
pub record IsClusterList (ops : List RegOp) (initial : Option ℤ) (cluster : ℕ) (numbers : List ℕ)
    : Type 0 where
  pub once : HasNoneTwice numbers
  pub each_of : (number : ℕ) → has numbers number ≡ true → IsOfCluster ops initial cluster number
  pub each_there : (number : ℕ) → has numbers number ≡ true → MustStand ops number
  pub runs : IsRunOf ops initial cluster numbers
  pub in_turn : (first second : ℕ) → StandBefore numbers first second → AreInStep ops first second
  pub whole : (number : ℕ) (value : ℤ) → HasValue ops initial cluster value
      → MustStand ops number → GivesValue (reg_call_at ops number) value → has numbers number ≡ true
