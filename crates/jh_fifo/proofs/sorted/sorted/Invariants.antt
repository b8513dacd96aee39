use Rattle.jh_fifo.proofs.SortedLemmas.{AreEntries}
use Rattle.jh_fifo.proofs.sorted.sorted.Given as goal

abbrev pub invariant-loop-index : goal.invariant-loop-index
invariant-loop-index l = AreEntries l.keys l.index l.entries.items
