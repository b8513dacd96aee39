use Rattle.std.proofs.Common.{take}
use Rattle.jh_txn_findings.specs.Found.{AreFoundSteps}
use Rattle.jh_txn_findings.proofs.steps.found_steps.Given as goal

abbrev pub invariant-loop-step : goal.invariant-loop-step
invariant-loop-step l = AreFoundSteps l.keys l.elements (take l.step-index l.steps) l.found.items
