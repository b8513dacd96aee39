-- How hubs are left out of a loop of steps: proofs rest on it, and no public clause names it.
-- This project's own.
use Rattle.std.specs.Prelude.{◌≡◌, ℕ, ◌<◌, ◌≤◌, List, [], ◌∷◌, length, drop, Vec}
use Rattle.std.specs.List.{HoldsAt}
use Rattle.std.specs.declared.alloc.Global.{Global}
use Rattle.jh_txn.specs.declared.dependency.Step.{Step}
use Rattle.jh_txn.specs.Cycles.{first_place}
use Rattle.jh_txn_graph.specs.Graphs.{LeadByPaths}

-- some step is from a transaction
abbrev pub HasTransaction : ℕ → List Step → Type 0
HasTransaction count steps =
    (index : ℕ) × (index < length steps) × HoldsAt (λ step. step.place < count) steps index

-- each step is from a hub
abbrev pub AreHubs : ℕ → List Step → Type 0
AreHubs count [] = Unit {0}
AreHubs count (step ∷ steps) = (count ≤ step.place) × AreHubs count steps

-- the first step is from a transaction
abbrev pub BeginsBelow : ℕ → List Step → Type 0
BeginsBelow count steps =
    (0 < length steps) × HoldsAt (λ step. step.place < count) steps 0

-- the node of the step at an index of a loop; behind the last step it is that of the first one
abbrev pub place_of_step : List Step → ℕ → ℕ
place_of_step steps index = first_place (drop index steps) (first_place steps 0)

-- What was made of the steps before an index of a loop: steps that lead to that of this index.
pub record IsUnderWay (graph : List (Vec Step Global)) (count : ℕ) (steps : List Step)
    (index : ℕ) (cycle : List Step) : Type 0 where
  pub led : LeadByPaths graph count cycle (place_of_step steps index)
  pub begun : first_place cycle (place_of_step steps index) ≡ first_place steps 0
  pub some : 0 < index → 0 < length cycle
