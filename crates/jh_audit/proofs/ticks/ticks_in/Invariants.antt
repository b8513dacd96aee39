use Rattle.std.proofs.Common.{◌≡◌, take}
use Rattle.std.specs.List.{count_by}
use Rattle.jh_audit.specs.Plans.{is_tick}
use Rattle.jh_audit.proofs.ticks.ticks_in.Given as goal

-- the ticks so far were counted
abbrev pub invariant-loop-event : goal.invariant-loop-event
invariant-loop-event l = l.ticks ≡ count_by is_tick (take l.event-index l.journal)
