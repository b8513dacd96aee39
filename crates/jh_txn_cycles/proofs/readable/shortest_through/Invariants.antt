use Rattle.std.specs.Prelude.{IfSome}
use Rattle.jh_txn_graph.specs.Graphs.{IsCycleOfPaths}
use Rattle.jh_txn_cycles.proofs.readable.shortest_through.Given as goal

abbrev pub invariant-loop-step : goal.invariant-loop-step
invariant-loop-step l = IfSome l.best (λ cycle. IsCycleOfPaths l.graph l.shape.count cycle.items)
