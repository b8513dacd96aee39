-- Why a register whose values are written once each has no order. Each reason excludes every order
-- by itself (`reasons_exclude`). This project's own, after Gibbons and Korach (1997).
use Rattle.std.specs.Prelude.{◌≡◌, ◌≢◌, ◌⊎◌, ℕ, ℤ, Option, Some, List, [], ◌∷◌}
use Rattle.jh_linear.specs.declared.register.RegCall.TheVariants.{Read, Cas}
use Rattle.jh_linear.specs.declared.register.RegOp.{RegOp}
use Rattle.jh_linear.specs.Order.{Precedes}
use Rattle.jh_unique.specs.Unique.{NeedsValue, reg_call_at, WritesAt, MustStand, HasValue, IsOfCluster}

-- A value that is needed has no origin: no compare-and-sets lead to it from a write or from the
-- initial value.
abbrev pub HasNoOrigin : List RegOp → Option ℤ → ℕ → ℤ → Type 0
HasNoOrigin ops initial number value =
    MustStand ops number × NeedsValue (reg_call_at ops number) value
    × ((cluster : ℕ) → HasValue ops initial cluster value → ⊥)

-- Two compare-and-sets from one value have to stand.
abbrev pub AreFromOne : List RegOp → ℕ → ℕ → ℤ → Type 0
AreFromOne ops first second old =
    MustStand ops first × MustStand ops second × (first ≢ second)
    × ((new : ℤ) × (reg_call_at ops first ≡ Cas old new))
    × ((new : ℤ) × (reg_call_at ops second ≡ Cas old new))

-- The first operation hands on to the second one, which so has to stand behind it: it wrote what
-- that one needs, or it read what that one replaced.
abbrev pub HandsOn : List RegOp → ℕ → ℕ → Type 0
HandsOn ops first second =
    ((value : ℤ) × WritesAt ops first value × NeedsValue (reg_call_at ops second) value)
    ⊎ ((value new : ℤ) × (reg_call_at ops first ≡ Read (Some value))
    × (reg_call_at ops second ≡ Cas value new))

-- It does so step by step, by operations between, and all of these have to stand.
abbrev pub HandsOnBy : List RegOp → ℕ → List ℕ → ℕ → Type 0
HandsOnBy ops first [] second =
    MustStand ops first × MustStand ops second × HandsOn ops first second
HandsOnBy ops first (next ∷ between) second =
    MustStand ops first × HandsOn ops first next × HandsOnBy ops next between second

-- The first cluster comes before the second one: it begins with the initial value, or one of its
-- operations ended before one of the second, which has to stand, was invoked.
abbrev pub ClusterComesBefore : List RegOp → Option ℤ → ℕ → ℕ → Type 0
ClusterComesBefore ops initial first second =
    (first ≡ 0) ⊎ ((one other : ℕ) × IsOfCluster ops initial first one
    × IsOfCluster ops initial second other × Precedes ops one other × MustStand ops other)

-- two clusters each of which comes before the other
abbrev pub AreCrossedClusters : List RegOp → Option ℤ → ℕ → ℕ → Type 0
AreCrossedClusters ops initial first second = (first ≢ second)
    × ClusterComesBefore ops initial first second × ClusterComesBefore ops initial second first

-- The second operation ended before the first one was invoked, and has to stand behind it: by what
-- they read and write, or since their clusters are crossed.
abbrev pub AreTurnedRound : List RegOp → Option ℤ → ℕ → ℕ → Type 0
AreTurnedRound ops initial first second = Precedes ops second first
    × (((between : List ℕ) × HandsOnBy ops first between second)
    ⊎ ((one other : ℕ) × IsOfCluster ops initial one first × IsOfCluster ops initial other second
    × AreCrossedClusters ops initial one other))
