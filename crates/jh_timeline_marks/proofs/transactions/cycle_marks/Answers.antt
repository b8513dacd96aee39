use Rattle.std.proofs.Common.{None, get_or, ◌++◌, ap, ◌∙◌}
use Rattle.std.specs.Prelude.{slice_get}
use Rattle.std.specs.Option.{option_and_then, option_map, option_to_list}
use Rattle.jh_ops.specs.Operation.{operations}
use Rattle.jh_timeline.specs.declared.picture.Call.{Call}
use Rattle.jh_timeline_marks.specs.Marked.{cycle_note, invocations_of, mark_at, place_among, step_note}
use Rattle.jh_timeline_marks.proofs.MarkLemmas.{marks_more, through}
use Rattle.jh_timeline_marks.proofs.transactions.cycle_marks.Goals as goal

pub loop-number-preserved : goal.loop-number-preserved
loop-number-preserved c =
    let l = c.loop-number in
    let d : Call = record { client = 0; first = 0; completion = None; last = 0 } in
    let call = get_or c.args.calls.now l.number d in
    let history = operations c.args.history.now in
    let known = invocations_of history in
    let steps = c.args.steps.now in
    let index = c.place_through-index.ensures
    ∙ through c.in_ok-numbers.numbers c.in_ok-places.places known _ call.first c.in_ok-numbers.ensures c.in_ok-places.ensures
    ∙ ap (λ numbers. option_and_then (place_among numbers) (place_among known call.first)) (c.deref.ensures.value ∙ c.in_ok-places_in.ensures) in
    marks_more (cycle_note steps history) c.args.calls.now l.number d l.marks.items c.push_note.new.marks.items c.loop-number-test.true l.invariant
    (c.in_ok-push_note.ensures ∙ ap (λ note. l.marks.items ++ option_to_list (mark_at l.number note))
    (c.note_at.ensures ∙ ap (λ found. option_map step_note (option_and_then (slice_get steps) found)) index))
