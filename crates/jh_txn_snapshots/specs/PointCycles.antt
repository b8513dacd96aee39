-- Cycles of points, as a search among starts and commits finds them. This project's own.
use Rattle.std.specs.Prelude.{◌≡◌, ℕ, Option, Some, None, List, [], ◌∷◌, ◌++◌}
use Rattle.jh_txn.specs.declared.dependency.Step.{Step}
use Rattle.jh_txn.specs.declared.dependency.Why.{Why}
use Rattle.jh_txn.specs.declared.model.ConsistencyModel.{ConsistencyModel}
use Rattle.jh_txn.specs.declared.txn.Point.{Point}
use Rattle.jh_txn.specs.declared.txn.Point.TheVariants.{Start, Commit}
use Rattle.jh_txn.specs.declared.txn.Txn.{Txn}
use Rattle.jh_txn.specs.Dependencies.{IsDependency}
use Rattle.jh_txn.specs.Keeping.{leaves_at, arrives_at}
use Rattle.jh_txn.specs.SnapshotCheckInside.{place_of_point}

-- A step from one point to another one: along a dependency, where there is a why, else from the
-- start of a transaction to its commit.
abbrev pub IsPointStep : List Txn → ConsistencyModel → Point → Option Why → Point → Type 0
IsPointStep txns model from None to = (place : ℕ) × (from ≡ Start place) × (to ≡ Commit place)
IsPointStep txns model from (Some why) to =
    (first second : ℕ) × IsDependency txns model why first second
    × (from ≡ leaves_at why first) × (to ≡ arrives_at why second)

-- the point of the first of these steps; where there is none, the one that they lead to
abbrev pub first_point : List (Point × Option Why) → Point → Point
first_point [] last = last
first_point (step ∷ steps) last = step.0

-- each step leads to the next one's point, and the last one to this point
abbrev pub LeadToPoint : List Txn → ConsistencyModel → List (Point × Option Why) → Point → Type 0
LeadToPoint txns model [] last = Unit {0}
LeadToPoint txns model (step ∷ steps) last =
    IsPointStep txns model step.0 step.1 (first_point steps last)
    × LeadToPoint txns model steps last

-- steps, each to the next one's point, and the last one to that of the first one
abbrev pub IsPointCycle : List Txn → ConsistencyModel → List (Point × Option Why) → Type 0
IsPointCycle txns model [] = ⊥
IsPointCycle txns model (step ∷ steps) = LeadToPoint txns model (step ∷ steps) step.0

-- the dependency of a step, if it is along one
abbrev pub dependency_step : Point → Option Why → List Step
dependency_step point None = []
dependency_step point (Some why) = record { place = place_of_point point; why = why } ∷ []

-- those steps that are along dependencies
abbrev pub dependency_steps : List (Point × Option Why) → List Step
dependency_steps [] = []
dependency_steps (step ∷ steps) = dependency_step step.0 step.1 ++ dependency_steps steps
