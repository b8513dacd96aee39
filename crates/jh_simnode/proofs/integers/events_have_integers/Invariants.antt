use Rattle.std.proofs.Common.{All, take}
use Rattle.jh_simnode.specs.Histories.{HasIntegers}
use Rattle.jh_simnode.proofs.integers.events_have_integers.Given as goal

abbrev pub invariant-loop-event : goal.invariant-loop-event
invariant-loop-event l = All HasIntegers (take l.event-index l.journal)
