use Rattle.std.proofs.Common.{◌≡◌, take}
use Rattle.jh_ops.specs.Operation.{operations}
use Rattle.jh_timeline_marks.specs.Marked.{marks_by, placed_note}
use Rattle.jh_timeline_marks.proofs.orders.placed_marks.Given as goal

abbrev pub invariant-loop-number : goal.invariant-loop-number
invariant-loop-number l = l.marks.items ≡ marks_by (placed_note l.held l.order (operations l.history)) (take l.number l.calls)
