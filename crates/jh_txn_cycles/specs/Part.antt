-- Parts of a graph, which have some of its steps: proofs rest on it, and no public clause names it. This
-- project's own.
use Rattle.std.specs.Prelude.{◌≡◌, ℕ, Some, List, length, slice_get, Vec}
use Rattle.std.specs.declared.alloc.Global.{Global}
use Rattle.jh_txn.specs.declared.dependency.Step.{Step}
use Rattle.jh_txn_graph.specs.Graphs.{IsStepTo}

-- each of the kept steps is one of the row
abbrev pub HasOnly : List Step → List Step → Type 0
HasOnly row kept =
    (index : ℕ) (step : Step) → slice_get kept index ≡ Some step
    → (at : ℕ) × (slice_get row at ≡ Some step)

-- the same nodes, and no step that the graph does not have
pub record IsPartOf (graph part : List (Vec Step Global)) : Type 0 where
  pub count : length part ≡ length graph
  pub steps : (step : Step) (node : ℕ) → IsStepTo part step node → IsStepTo graph step node
