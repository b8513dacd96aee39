use Rattle.std.proofs.Common.{◌≡◌, drop}
use Rattle.std.specs.List.{list_any}
use Rattle.jh_txn_findings.specs.CycleNames.{are_anti_dependencies, is_anti_dependency, neighbours}
use Rattle.jh_txn_findings.specs.NeighboursInside.{meets_two}
use Rattle.jh_txn_findings.proofs.cycle_name.has_neighbours.Given as goal

abbrev pub invariant-loop-step : goal.invariant-loop-step
invariant-loop-step l =
    meets_two (λ step. is_anti_dependency step.why) l.before (drop l.step-index l.others) (is_anti_dependency l.first.why)
    ≡ list_any are_anti_dependencies (neighbours l.steps)
