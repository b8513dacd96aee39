use Rattle.std.proofs.Common.{◌≡◌, take}
use Rattle.jh_ops.specs.Operation.{operations}
use Rattle.jh_timeline_marks.specs.Marked.{set_full_note, marks_by}
use Rattle.jh_timeline_marks.proofs.set_full.set_full_marks.Given as goal

abbrev pub invariant-loop-number : goal.invariant-loop-number
invariant-loop-number l = l.marks.items ≡ marks_by (set_full_note l.found (operations l.history)) (take l.number l.calls)
