use Rattle.std.proofs.Common.{◌≡◌, ℕ, length}
use Rattle.jh_txn.specs.declared.dependency.Step.{Step}
use Rattle.jh_txn_graph.specs.Graphs.{IsStepTo}
use Rattle.jh_txn_cycles.proofs.part.part_of.Given as goal

abbrev pub invariant-loop-node : goal.invariant-loop-node
invariant-loop-node l = (length l.part.items ≡ l.node) × ((step : Step) (node : ℕ) → IsStepTo l.part.items step node → IsStepTo l.graph step node)
