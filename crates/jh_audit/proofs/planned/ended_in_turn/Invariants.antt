use Rattle.std.proofs.Common.{◌≡◌, ◌≤◌}
use Rattle.jh_ops.specs.Operation.{operations}
use Rattle.jh_audit.specs.Plans.{AreInTurn, steps_below}
use Rattle.jh_audit.proofs.planned.ended_in_turn.Given as goal

-- the completions so far are in turn, and they were counted
abbrev pub invariant-loop-place : goal.invariant-loop-place
invariant-loop-place l = record {
  in_turn : AreInTurn l.schedule l.journal (operations l.history) l.place;
  ended : l.ended ≡ steps_below (operations l.history) l.place;
  few : l.ended ≤ l.place;
}
