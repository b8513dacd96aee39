use Rattle.std.proofs.Common.{◌≡◌, take}
use Rattle.jh_workers.proofs.locked.copy_of.Given as goal

abbrev pub invariant-loop-event : goal.invariant-loop-event
invariant-loop-event l = l.copy.items ≡ take l.event-index l.events
