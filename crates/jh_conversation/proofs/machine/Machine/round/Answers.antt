use Rattle.std.proofs.Common.{arith}
use Rattle.jh_conversation.proofs.CodeLemmas.{rest_next, sound_visit}
use Rattle.jh_conversation.proofs.machine.Machine.round.Goals as goal

pub loop-thread-preserved : goal.loop-thread-preserved
loop-thread-preserved c =
    let before = c.loop-thread.invariant in record {
      rest = rest_next _ _ _ _ _ _ c.loop-thread-test.true before.rest c.in_ok-visit.ensures;
      sound = sound_visit _ _ _ _ before.fit (let below = c.loop-thread-test.true in let end = before.end in omega (arith, below, end)) before.sound c.in_ok-visit.ensures;
      end = before.end;
      fit = before.fit;
    }
