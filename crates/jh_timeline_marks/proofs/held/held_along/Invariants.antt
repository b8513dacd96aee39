use Rattle.jh_ops.specs.Operation.{operations}
use Rattle.jh_timeline_marks.proofs.MarkLemmas.{Holding}
use Rattle.jh_timeline_marks.proofs.held.held_along.Given as goal

abbrev pub invariant-loop-number : goal.invariant-loop-number
invariant-loop-number l = Holding (operations l.history) l.order l.number-index l.holds l.held.items
