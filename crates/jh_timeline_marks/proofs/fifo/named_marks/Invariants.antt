use Rattle.std.proofs.Common.{◌≡◌, take}
use Rattle.std.specs.Prelude.{is_some}
use Rattle.jh_ops.specs.Operation.{operations}
use Rattle.jh_timeline.specs.declared.marks.Note.{Note}
use Rattle.jh_timeline_marks.specs.Marked.{marks_by, note_if, place_in}
use Rattle.jh_timeline_marks.proofs.fifo.named_marks.Given as goal

abbrev pub invariant-loop-number : goal.invariant-loop-number
invariant-loop-number l = l.marks.items ≡ marks_by (λ call. note_if (is_some (place_in l.named (operations l.history) call)) Note.Named) (take l.number l.calls)
