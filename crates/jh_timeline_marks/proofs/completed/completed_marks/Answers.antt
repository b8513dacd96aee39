use Rattle.std.proofs.Common.{None, false, get_or, ◌++◌, ap, ◌∙◌}
use Rattle.std.specs.Prelude.{is_some}
use Rattle.std.specs.Option.{option_map_or, option_to_list}
use Rattle.jh_timeline.specs.declared.picture.Call.{Call}
use Rattle.jh_timeline_marks.specs.Marked.{is_completed_among, mark_at, note_if}
use Rattle.jh_timeline_marks.proofs.MarkLemmas.{marks_more}
use Rattle.jh_timeline_marks.proofs.completed.completed_marks.Goals as goal

pub loop-number-preserved : goal.loop-number-preserved
loop-number-preserved c =
    let l = c.loop-number in
    let d : Call = record { client = 0; first = 0; completion = None; last = 0 } in
    let call = get_or c.args.calls.now l.number d in
    marks_more (λ one. note_if (is_completed_among c.args.places.now one) c.args.note) c.args.calls.now l.number d l.marks.items c.push_note.new.marks.items c.loop-number-test.true l.invariant
    (c.in_ok-push_note.ensures ∙ ap (λ note. l.marks.items ++ option_to_list (mark_at l.number note)) (c.noted.ensures ∙ ap (λ holds. note_if holds c.args.note)
    (c.is_completed_in-holds.ensures ∙ (λ i. option_map_or (λ place. is_some (c.in_ok-table.ensures place i)) call.completion false))))
