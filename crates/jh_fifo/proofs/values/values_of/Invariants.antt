use Rattle.jh_fifo.proofs.ValueLemmas.{AreGathered}
use Rattle.jh_fifo.proofs.values.values_of.Given as goal

abbrev pub invariant-loop-place : goal.invariant-loop-place
invariant-loop-place l = AreGathered l.ops l.place l.spans.items
