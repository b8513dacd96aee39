-- The sums by which clusters are sorted: no public clause names it.
use Rattle.std.specs.Prelude.{◌≡◌, ◌⊎◌, ℕ, ◌+◌, ◌-◌, ◌^◌, ◌≤◌, Some, List, ◌∷◌, true}
use Rattle.jh_linear.specs.declared.register.RegOp.{RegOp}
use Rattle.jh_linear.specs.Order.{op_at, IsDone, has}
use Rattle.jh_unique.specs.Sorted.{AreKeyedNumbers, RiseInKeys, seconds_of}

-- the first end among some operations, or a number behind all
pub record IsSoonest (ops : List RegOp) (numbers : List ℕ) (soon : ℕ) : Type 0 where
  pub least : (number end : ℕ) → has numbers number ≡ true → IsDone ops number
      → (op_at ops number).ended ≡ Some end → soon ≤ end
  pub which : ((number : ℕ) × (has numbers number ≡ true) × IsDone ops number
      × ((op_at ops number).ended ≡ Some soon)) ⊎ (soon ≡ 2 ^ 64 - 1)

-- the last invocation among them, or 0
pub record IsLatest (ops : List RegOp) (numbers : List ℕ) (late : ℕ) : Type 0 where
  pub most : (number : ℕ) → has numbers number ≡ true → (op_at ops number).invoked ≤ late
  pub which : ((number : ℕ) × (has numbers number ≡ true) × ((op_at ops number).invoked ≡ late))
      ⊎ (late ≡ 0)

-- the sum of both
abbrev pub HasKey : List RegOp → List ℕ → ℕ → Type 0
HasKey ops numbers key = (soon : ℕ) × (late : ℕ) × (key ≡ soon + late) × (late ≤ 2 ^ 64 - 1)
    × IsSoonest ops numbers soon × IsLatest ops numbers late

-- it is the key of a cluster
abbrev pub HasClusterKey : List RegOp → (ℕ → List ℕ) → ℕ → ℕ → Type 0
HasClusterKey ops members cluster key = HasKey ops (members cluster) key

-- the start, and then the clusters below a bound, the least key first
abbrev pub AreClustersOf : List RegOp → (ℕ → List ℕ) → ℕ → List ℕ → Type 0
AreClustersOf ops members bound clusters = (entries : List (ℕ × ℕ))
    × AreKeyedNumbers (HasClusterKey ops members) 1 bound entries × RiseInKeys entries
    × (clusters ≡ 0 ∷ seconds_of entries)
