use Rattle.std.proofs.Common.{None, get_or, ◌++◌, ap, ◌∙◌}
use Rattle.std.specs.Option.{option_to_list}
use Rattle.jh_ops.specs.Operation.{operations}
use Rattle.jh_timeline.specs.declared.picture.Call.{Call}
use Rattle.jh_timeline_marks.specs.Marked.{set_full_note, mark_at}
use Rattle.jh_timeline_marks.proofs.MarkLemmas.{marks_more}
use Rattle.jh_timeline_marks.proofs.set_full.set_full_marks.Goals as goal

pub loop-number-preserved : goal.loop-number-preserved
loop-number-preserved c =
    let l = c.loop-number in
    let d : Call = record { client = 0; first = 0; completion = None; last = 0 } in
    let call = get_or c.args.calls.now l.number d in
    let history = operations c.args.history.now in
    marks_more (set_full_note c.args.found.now history) c.args.calls.now l.number d l.marks.items c.push_note.new.marks.items c.loop-number-test.true l.invariant
    (c.in_ok-push_note.ensures ∙ ap (λ note. l.marks.items ++ option_to_list (mark_at l.number note)) (c.in_ok-note.ensures ∙ c.in_ok-elements.ensures.notes history call))
