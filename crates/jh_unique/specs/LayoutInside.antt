-- Clusters in an order, on the way to a verdict: proofs rest on it, and no public clause names it.
use Rattle.std.specs.Prelude.{◌≡◌, ◌≢◌, ◌⊎◌, ℕ, ◌<◌, ℤ, Option, None, Some, List, ◌∷◌, true}
use Rattle.std.specs.List.{flat_map}
use Rattle.jh_linear.specs.declared.register.RegCall.TheVariants.{Read}
use Rattle.jh_linear.specs.declared.register.RegOp.{RegOp}
use Rattle.jh_linear.specs.Order.{Precedes, has, StandBefore, HasNoneTwice, IsOrder}
use Rattle.jh_unique.specs.declared.verdict.UniqueVerdict.{UniqueVerdict}
use Rattle.jh_unique.specs.declared.verdict.UniqueVerdict.TheVariants.{Valid, Invalid, Repeated, WritesInitial}
use Rattle.jh_unique.specs.Unique.{reg_call_at, MustStand}
use Rattle.jh_unique.specs.Reasons.{ClusterComesBefore}
use Rattle.jh_unique.specs.Judged.{IsUniqueReason}
use Rattle.jh_unique.specs.Clusters.{ReadsNil}

-- an order, or a reason that applies
abbrev pub IsAnswerOfOnce : List RegOp → Option ℤ → UniqueVerdict → Type 0
IsAnswerOfOnce ops initial (Valid order) = IsOrder ops initial order
IsAnswerOfOnce ops initial (Invalid reason) = IsUniqueReason ops initial reason
IsAnswerOfOnce ops initial (Repeated first second) = ⊥
IsAnswerOfOnce ops initial (WritesInitial number) = ⊥

-- A list of clusters: that of the start first, then all that are not empty, so that of two of them
-- the first one comes before the second one, where something of the second one ended before
-- something of the first one was invoked.
pub record AreLaidOut (ops : List RegOp) (initial : Option ℤ) (members : ℕ → List ℕ)
    (rest : List ℕ) : Type 0 where
  pub distinct : HasNoneTwice rest
  pub later : (cluster : ℕ) → has rest cluster ≡ true → 0 < cluster
  pub whole : (cluster number : ℕ) → 0 < cluster → has (members cluster) number ≡ true
      → has rest cluster ≡ true
  pub crossing : (one other first second : ℕ) → StandBefore rest one other
      → has (members one) first ≡ true → has (members other) second ≡ true
      → Precedes ops second first → ClusterComesBefore ops initial one other

-- all that is in clusters, in such an order of the clusters
abbrev pub IsLaidOut : List RegOp → Option ℤ → (ℕ → List ℕ) → List ℕ → Type 0
IsLaidOut ops initial members flat = (rest : List ℕ) × AreLaidOut ops initial members rest
    × (flat ≡ flat_map members (0 ∷ rest))

-- what must stand, and is missing from a list though it is no read of nil
abbrev pub IsMissingFrom : List RegOp → List ℕ → Option ℕ → Type 0
IsMissingFrom ops flat None =
    (number : ℕ) → MustStand ops number → (has flat number ≡ true) ⊎ ReadsNil ops number
IsMissingFrom ops flat (Some number) = MustStand ops number × (has flat number ≢ true)
    × (reg_call_at ops number ≢ Read None)
