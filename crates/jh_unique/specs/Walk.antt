-- A cluster, walked from its beginning along its compare-and-sets: proofs rest on it, and no public
-- clause names it.
use Rattle.std.specs.Prelude.{◌≡◌, ◌⊎◌, ℕ, zero, suc, ◌≤◌, ℤ, Option, Some, List, true}
use Rattle.jh_linear.specs.declared.register.RegCall.TheVariants.{Read, Cas}
use Rattle.jh_linear.specs.declared.register.RegOp.{RegOp}
use Rattle.jh_linear.specs.Order.{op_at, has, StandBefore, HasNoneTwice, IsLegalFrom}
use Rattle.jh_unique.specs.Unique.{NeedsValue, GivesValue, reg_call_at, MustStand, ClusterBegins, HasValue, IsOfCluster}
use Rattle.jh_unique.specs.Reasons.{HandsOnBy}
use Rattle.jh_unique.specs.Clusters.{AreInStep}

-- the numbers lead from the cluster's beginning to a value
abbrev pub RunsTo : List RegOp → Option ℤ → ℕ → List ℕ → ℤ → Type 0
RunsTo ops initial zero numbers value = IsLegalFrom ops initial numbers (Some value)
RunsTo ops initial (suc write) numbers value =
    (held : Option ℤ) → IsLegalFrom ops held numbers (Some value)

-- the cluster begins with the value, or one of the numbers is a compare-and-set to it
abbrev pub IsReachedValue : List RegOp → Option ℤ → ℕ → List ℕ → ℤ → Type 0
IsReachedValue ops initial cluster numbers value = ClusterBegins ops initial cluster value
    ⊎ ((number : ℕ) × (old : ℤ) × (has numbers number ≡ true) × (reg_call_at ops number ≡ Cas old value))

-- a compare-and-set from a value
abbrev pub IsCasFrom : List RegOp → ℕ → ℤ → Type 0
IsCasFrom ops number old = (new : ℤ) × (reg_call_at ops number ≡ Cas old new)

-- what holds of the numbers of a cluster all along
pub record IsWalkSoFar (ops : List RegOp) (initial : Option ℤ) (cluster : ℕ) (value : ℤ)
    (numbers : List ℕ) : Type 0 where
  pub once : HasNoneTwice numbers
  pub has_value : HasValue ops initial cluster value
  pub each_of : (number : ℕ) → has numbers number ≡ true → IsOfCluster ops initial cluster number
  pub each_there : (number : ℕ) → has numbers number ≡ true → MustStand ops number
  pub begins : (write : ℕ) → cluster ≡ suc write → has numbers write ≡ true
  pub runs : RunsTo ops initial cluster numbers value
  pub in_turn : (first second : ℕ) → StandBefore numbers first second → AreInStep ops first second
  pub went_on : (number : ℕ) (old : ℤ) → IsReachedValue ops initial cluster numbers old
      → MustStand ops number → IsCasFrom ops number old
      → (has numbers number ≡ true) ⊎ (old ≡ value)

-- It has come to a value, and what reads that is not there yet.
pub record HasComeTo (ops : List RegOp) (initial : Option ℤ) (cluster : ℕ) (value : ℤ)
    (numbers : List ℕ) : Type 0 where
  pub walk : IsWalkSoFar ops initial cluster value numbers
  pub fresh : (number : ℕ) → has numbers number ≡ true → NeedsValue (reg_call_at ops number) value → ⊥
  pub leads : (number next : ℕ) → has numbers number ≡ true → MustStand ops next
      → NeedsValue (reg_call_at ops next) value → (between : List ℕ) × HandsOnBy ops number between next
  pub whole : (number : ℕ) (other : ℤ) → IsReachedValue ops initial cluster numbers other
      → MustStand ops number → GivesValue (reg_call_at ops number) other
      → (has numbers number ≡ true) ⊎ (other ≡ value)

-- Its reads are there too.
pub record HasReads (ops : List RegOp) (initial : Option ℤ) (cluster : ℕ) (value : ℤ)
    (numbers : List ℕ) : Type 0 where
  pub walk : IsWalkSoFar ops initial cluster value numbers
  pub fresh : (number : ℕ) → has numbers number ≡ true → IsCasFrom ops number value → ⊥
  pub leads : (number next : ℕ) → has numbers number ≡ true → MustStand ops next
      → IsCasFrom ops next value → (between : List ℕ) × HandsOnBy ops number between next
  pub whole : (number : ℕ) (other : ℤ) → IsReachedValue ops initial cluster numbers other
      → MustStand ops number → GivesValue (reg_call_at ops number) other → has numbers number ≡ true

-- the reads of a value that must stand, in the order of their invocations
pub record AreReads (ops : List RegOp) (value : ℤ) (numbers : List ℕ) : Type 0 where
  pub once : HasNoneTwice numbers
  pub each : (number : ℕ) → has numbers number ≡ true
      → MustStand ops number × (reg_call_at ops number ≡ Read (Some value))
  pub whole : (number : ℕ) → MustStand ops number → reg_call_at ops number ≡ Read (Some value)
      → has numbers number ≡ true
  pub sorted : (first second : ℕ) → StandBefore numbers first second
      → (op_at ops first).invoked ≤ (op_at ops second).invoked

-- all of a cluster that must stand
pub record IsWalked (ops : List RegOp) (initial : Option ℤ) (cluster : ℕ) (numbers : List ℕ)
    : Type 0 where
  pub value : ℤ
  pub walk : IsWalkSoFar ops initial cluster value numbers
  pub whole : (number : ℕ) (other : ℤ) → HasValue ops initial cluster other
      → MustStand ops number → GivesValue (reg_call_at ops number) other → has numbers number ≡ true
