use Rattle.jh_fifo.specs.Moments.{IsFilling}
use Rattle.jh_fifo.proofs.moments.fill.Given as goal

abbrev pub invariant-loop-number : goal.invariant-loop-number
invariant-loop-number l = IsFilling l.ops l.values l.entered l.invoked l.number l.spans.items l.sweep.passed l.sweep.at
