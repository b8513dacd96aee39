use Rattle.std.proofs.Common.{List}
use Rattle.std.specs.Prelude.{Vec}
use Rattle.std.specs.declared.alloc.Global.{Global}
use Rattle.jh_txn.specs.declared.dependency.Step.{Step}
use Rattle.jh_txn_graph.specs.HubsInside.{IsUnderWay}
use Rattle.jh_txn_graph.specs.WalkInside.{IsLoop}
use Rattle.jh_txn_graph.proofs.hubs.without_hubs.Given as goal

abbrev pub invariant-loop-step : goal.invariant-loop-step
invariant-loop-step l =
    (graph : List (Vec Step Global)) → IsLoop graph l.steps
    → IsUnderWay graph l.count l.steps l.step-index l.cycle.items
