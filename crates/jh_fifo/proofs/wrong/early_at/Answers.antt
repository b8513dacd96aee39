use Rattle.std.proofs.Common.{sym}
use Rattle.jh_fifo.proofs.wrong.early_at.Goals as goal

pub precedes-requires-clause-second : goal.precedes-requires-clause-second
precedes-requires-clause-second c = (c.requires.table.sound c.in-Dequeue.value c.in-Some.enqueue (sym c.in-Some.ensures)).0
