use Rattle.std.proofs.Common.{◌≡◌, take}
use Rattle.std.specs.List.{count_by}
use Rattle.jh_simnode.specs.Counts.{is_call_by}
use Rattle.jh_audit.proofs.ticks.calls_by.Given as goal

-- the calls so far were counted
abbrev pub invariant-loop-event : goal.invariant-loop-event
invariant-loop-event l = l.calls ≡ count_by (is_call_by l.clients l.thread) (take l.event-index l.journal)
