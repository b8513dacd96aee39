use Rattle.std.proofs.Common.{◌≡◌, All, length, take}
use Rattle.jh_simnode.specs.Laws.{state_at}
use Rattle.jh_simnode.specs.Replay.{FitsEvent}
use Rattle.jh_simnode.specs.Runs.{setup_of}
use Rattle.jh_simnode.proofs.replay.nemesis_after.Given as goal

abbrev pub invariant-loop-event : goal.invariant-loop-event
invariant-loop-event l = record {
  state : l.nemesis.state ≡ state_at (setup_of l.plan) (take l.event-index l.journal);
  fits : All (FitsEvent (length l.plan.env.names)) (take l.event-index l.journal);
}
