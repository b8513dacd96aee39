use Rattle.std.proofs.Common.{◌≡◌, ◌≤◌, ◌-◌, length}
use Rattle.jh_simnode.specs.Running.{BetweenTurns}
use Rattle.jh_simnode.proofs.turns.Run.apply_due.Given as goal

abbrev pub invariant-loop-self : goal.invariant-loop-self
invariant-loop-self l = record {
  stands : BetweenTurns l.plan l.self l.world;
  waits : l.self.waits ≡ l.fn.self.waits;
  ended : l.self.has_ended ≡ l.fn.self.has_ended;
  grown : length l.fn.world.journal ≤ length l.world.journal;
}

abbrev pub decreases-loop-self : goal.decreases-loop-self
decreases-loop-self l = length l.entries - l.self.applied
