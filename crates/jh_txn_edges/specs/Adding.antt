-- Steps that are added to a graph. This project's own.
use Rattle.std.specs.Prelude.{◌≡◌, ◌⊎◌, ℕ, List, length, Vec}
use Rattle.std.specs.declared.alloc.Global.{Global}
use Rattle.jh_txn.specs.declared.dependency.Step.{Step}
use Rattle.jh_txn.specs.declared.dependency.Why.{Why}
use Rattle.jh_txn_graph.specs.Graphs.{HasStep}

-- A graph with all steps of an old one, and these.
pub record AddsSteps (steps : ℕ → Why → ℕ → Type 0) (old new : List (Vec Step Global))
    : Type 0 where
  pub count : length new ≡ length old
  pub kept : (place : ℕ) (why : Why) (target : ℕ) → HasStep old place why target
      → HasStep new place why target
  pub added : (place : ℕ) (why : Why) (target : ℕ) → steps place why target
      → HasStep new place why target
  pub only : (place : ℕ) (why : Why) (target : ℕ) → HasStep new place why target
      → HasStep old place why target ⊎ steps place why target

-- a step to a node
abbrev pub IsThis : Step → ℕ → ℕ → Why → ℕ → Type 0
IsThis step node place why target =
    (place ≡ step.place) × (why ≡ step.why) × (target ≡ node)
