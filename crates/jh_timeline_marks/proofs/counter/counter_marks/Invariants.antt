use Rattle.std.proofs.Common.{◌≡◌, take}
use Rattle.jh_ops.specs.Operation.{operations}
use Rattle.jh_timeline_marks.specs.Marked.{counter_note, marks_by}
use Rattle.jh_timeline_marks.proofs.counter.counter_marks.Given as goal

abbrev pub invariant-loop-number : goal.invariant-loop-number
invariant-loop-number l = l.marks.items ≡ marks_by (counter_note l.reads (operations l.history)) (take l.number l.calls)
