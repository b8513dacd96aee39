use Rattle.std.proofs.Common.{◌≡◌, take}
use Rattle.std.specs.Prelude.{codes}
use Rattle.jh_edn.specs.View.{views}
use Rattle.jh_ops.specs.Operation.{operations}
use Rattle.jh_timeline.specs.declared.marks.Note.{Note}
use Rattle.jh_timeline_marks.specs.Marked.{ends_with_one_of, marks_by, note_if}
use Rattle.jh_timeline_marks.proofs.ids.ids_marks.Given as goal

abbrev pub invariant-loop-number : goal.invariant-loop-number
invariant-loop-number l =
    l.marks.items ≡ marks_by (λ call. note_if (ends_with_one_of (codes "generate") (views l.ids.items) (operations l.history) call) Note.Repeated) (take l.number l.calls)
