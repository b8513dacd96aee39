use Rattle.jh_txn_cycles.specs.Part.{HasOnly}
use Rattle.jh_txn_cycles.proofs.part.steps_of.Given as goal

abbrev pub invariant-loop-step : goal.invariant-loop-step
invariant-loop-step l = HasOnly l.row l.kept.items
