use Rattle.std.proofs.Common.{None, get_or, ◌++◌, ap, ◌∙◌}
use Rattle.std.specs.Prelude.{is_some}
use Rattle.std.specs.Option.{option_and_then, option_to_list}
use Rattle.jh_ops.specs.Operation.{operations}
use Rattle.jh_timeline.specs.declared.marks.Note.{Note}
use Rattle.jh_timeline.specs.declared.picture.Call.{Call}
use Rattle.jh_timeline_marks.specs.Marked.{invocations_of, mark_at, note_if, place_among, place_in}
use Rattle.jh_timeline_marks.proofs.MarkLemmas.{marks_more, through}
use Rattle.jh_timeline_marks.proofs.fifo.named_marks.Goals as goal

pub loop-number-preserved : goal.loop-number-preserved
loop-number-preserved c =
    let l = c.loop-number in
    let d : Call = record { client = 0; first = 0; completion = None; last = 0 } in
    let call = get_or c.args.calls.now l.number d in
    let history = operations c.args.history.now in
    let known = invocations_of history in
    let named = c.args.named.now in
    let place = c.place_through.ensures
    ∙ through c.in_ok-numbers.numbers c.in_ok-places.places known named call.first c.in_ok-numbers.ensures c.in_ok-places.ensures in
    let holds = c.is_some-is_named.ensures ∙ ap is_some place in
    marks_more (λ one. note_if (is_some (place_in named history one)) Note.Named) c.args.calls.now l.number d l.marks.items c.push_note.new.marks.items
    c.loop-number-test.true l.invariant
    (c.in_ok-push_note.ensures ∙ ap (λ note. l.marks.items ++ option_to_list (mark_at l.number note))
    (c.noted.ensures ∙ ap (λ is. note_if is Note.Named) holds))
