use Rattle.std.proofs.Common.{arith}
use Rattle.jh_audit.specs.Plans.{ticks_of}
use Rattle.jh_audit.proofs.TurnLemmas.{sum_more}
use Rattle.jh_audit.proofs.ticks.ticks_owed.Goals as goal

pub loop-thread-preserved : goal.loop-thread-preserved
loop-thread-preserved c =
    let was = c.loop-thread.invariant in
    record {
      owed = omega (arith, was.owed, c.ticks_of.ensures, sum_more (ticks_of c.args.plan.now c.args.journal.now) c.loop-thread.thread);
      few = omega (arith, was.few);
    }
