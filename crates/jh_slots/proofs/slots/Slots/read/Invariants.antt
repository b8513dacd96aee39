use Rattle.std.proofs.Common.{◌≡◌, [], take, drop}
use Rattle.jh_slots.specs.Steps.{view_reading}
use Rattle.jh_slots.specs.Seats.{Words}
use Rattle.jh_slots.specs.Reading.{IsSeenAgain}
use Rattle.jh_slots.proofs.slots.Slots.read.Given as goal

abbrev pub invariant-loop-place : goal.invariant-loop-place
invariant-loop-place l =
    (l.seat-inside.inner.table_id ≡ l.initial.seat-inside.inner.table_id)
    × (l.seat-inside.inner.me.1 ≡ [])
    × (l.seat-inside.inner.me.0 ≡ view_reading l.initial.seat-inside.inner.me.0 l.row l.len (take l.place l.buffer))
    × (drop l.len l.buffer ≡ drop l.len l.initial.buffer)
    × (l.place ≡ l.len → IsSeenAgain l.initial.seat-inside.inner.me.0.knows l.row (Words (take l.place l.buffer)))
