use Rattle.std.proofs.Common.{sym}
use Rattle.jh_fifo.proofs.values.span_for.Goals as goal

pub taken_span-requires-clause-dequeue : goal.taken_span-requires-clause-dequeue
taken_span-requires-clause-dequeue c = (c.requires.table.sound c.in-Enqueue.value c.in-Some.dequeue (sym c.in-Some.ensures)).0
