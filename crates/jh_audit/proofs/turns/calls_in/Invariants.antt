use Rattle.std.proofs.Common.{◌≡◌, take}
use Rattle.std.specs.List.{count_by}
use Rattle.jh_simnode.specs.Counts.{is_call}
use Rattle.jh_audit.proofs.turns.calls_in.Given as goal

-- the calls so far were counted
abbrev pub invariant-loop-event : goal.invariant-loop-event
invariant-loop-event l = l.answered ≡ count_by is_call (take l.event-index l.journal)
