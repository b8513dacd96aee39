use Rattle.std.proofs.Common.{◌≡◌, ◌≤◌, ◌-◌}
use Rattle.jh_slots.specs.Seats.{knowledge_after_look}
use Rattle.jh_slots.proofs.slots.Slots.claim.Given as goal

abbrev pub invariant-loop-first : goal.invariant-loop-first
invariant-loop-first l = (l.seat.table ≡ l.initial.seat.table) × (l.seat.knows ≡ knowledge_after_look l.first l.fn.seat.knows) × (l.fn.seat.knows.low ≤ l.first) × (l.first ≤ l.self.rows)

abbrev pub decreases-loop-first : goal.decreases-loop-first
decreases-loop-first l = l.self.rows - l.first
