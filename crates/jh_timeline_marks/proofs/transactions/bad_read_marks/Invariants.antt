use Rattle.std.proofs.Common.{◌≡◌, take}
use Rattle.jh_ops.specs.Operation.{operations}
use Rattle.jh_timeline.specs.declared.marks.Note.{Note}
use Rattle.jh_timeline_marks.specs.Marked.{has_bad_read, marks_by, note_if}
use Rattle.jh_timeline_marks.proofs.transactions.bad_read_marks.Given as goal

abbrev pub invariant-loop-number : goal.invariant-loop-number
invariant-loop-number l = l.marks.items ≡ marks_by (λ call. note_if (has_bad_read l.place (operations l.history) call) Note.BadRead) (take l.number l.calls)
