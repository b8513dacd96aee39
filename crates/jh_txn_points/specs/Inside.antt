-- How steps are added: proofs rest on it, and no public clause names it. This project's own.
use Rattle.std.specs.Prelude.{◌≡◌, ℕ, List, Some, Vec, slice_get}
use Rattle.std.specs.declared.alloc.Global.{Global}
use Rattle.jh_txn.specs.declared.dependency.Step.{Step}
use Rattle.jh_txn.specs.declared.dependency.Why.{Why}
use Rattle.jh_txn_graph.specs.Graphs.{IsStepTo}
use Rattle.jh_txn_points.specs.PointSteps.{IsStepOfPoints}

-- what becomes of the steps of a list, which lead to a node
abbrev pub IsStepOfRow : ℕ → ℕ → List Step → ℕ → ℕ → Why → ℕ → Type 0
IsStepOfRow count keys row to place why target =
    (index : ℕ) × (step : Step) × (slice_get row index ≡ Some step)
    × IsStepOfPoints count keys step to place why target

-- what becomes of the steps of a graph that lead to a node
abbrev pub IsKeptStepTo : ℕ → ℕ → List (Vec Step Global) → ℕ → ℕ → Why → ℕ → Type 0
IsKeptStepTo count keys edges to place why target =
    (step : Step) × IsStepTo edges step to
    × IsStepOfPoints count keys step to place why target
