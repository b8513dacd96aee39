use Rattle.jh_simnode.specs.Running.{BetweenTurns, moves_left}
use Rattle.jh_simnode.proofs.serial.run_turns.Given as goal

abbrev pub invariant-loop-run : goal.invariant-loop-run
invariant-loop-run l = BetweenTurns l.plan l.run l.world

abbrev pub decreases-loop-run : goal.decreases-loop-run
decreases-loop-run l = moves_left l.run l.world
