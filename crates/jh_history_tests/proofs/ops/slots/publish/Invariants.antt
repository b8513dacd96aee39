use Rattle.std.proofs.Common.{◌≡◌}
use Rattle.jh_slots.specs.Seats.{HoldsClaim}
use Rattle.jh_history_tests.proofs.ops.slots.publish.Given as goal

abbrev pub invariant-loop-place : goal.invariant-loop-place
invariant-loop-place l =
    (l.seat.table ≡ l.initial.seat.table)
    × (l.claim.rows ≡ l.fn.rows)
    × HoldsClaim l.seat.knows l.claim.first l.claim.rows
