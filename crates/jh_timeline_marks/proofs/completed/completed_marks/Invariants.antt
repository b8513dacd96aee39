use Rattle.std.proofs.Common.{◌≡◌, take}
use Rattle.jh_timeline_marks.specs.Marked.{is_completed_among, marks_by, note_if}
use Rattle.jh_timeline_marks.proofs.completed.completed_marks.Given as goal

abbrev pub invariant-loop-number : goal.invariant-loop-number
invariant-loop-number l = l.marks.items ≡ marks_by (λ call. note_if (is_completed_among l.places call) l.note) (take l.number l.calls)
