use Rattle.std.proofs.Common.{None, get_or, ◌++◌, ap, ◌∙◌}
use Rattle.std.specs.Option.{is_some, option_and_then, option_map, option_to_list}
use Rattle.jh_ops.specs.Operation.{operations}
use Rattle.jh_timeline.specs.declared.picture.Call.{Call}
use Rattle.jh_timeline_marks.specs.Marked.{held_along, invocations_of, mark_at, place_among, place_along, stuck_note}
use Rattle.jh_timeline_marks.specs.MarkedInside.{stuck_note_with}
use Rattle.jh_timeline_marks.proofs.MarkLemmas.{marks_more, through}
use Rattle.jh_timeline_marks.proofs.register.invalid_marks.Goals as goal

pub loop-number-preserved : goal.loop-number-preserved
loop-number-preserved c =
    let l = c.loop-number in
    let d : Call = record { client = 0; first = 0; completion = None; last = 0 } in
    let call = get_or c.args.calls.now l.number d in
    let history = operations c.args.history.now in
    let known = invocations_of history in
    let named = c.is_some-is_named.ensures ∙ ap is_some (c.place_through-named_place.ensures
    ∙ through c.in_ok-numbers.numbers c.in_ok-named.named known _ call.first c.in_ok-numbers.ensures c.in_ok-named.ensures) in
    let pending = c.is_some-is_pending.ensures ∙ ap is_some (c.place_through-pending_place.ensures
    ∙ through c.in_ok-numbers.numbers c.in_ok-pending.pending known _ call.first c.in_ok-numbers.ensures c.in_ok-pending.ensures
    ∙ ap (λ numbers. option_and_then (place_among numbers) (place_among known call.first)) c.pending_in.ensures) in
    let number = c.place_through-order_place.ensures
    ∙ through c.in_ok-numbers.numbers c.in_ok-places.places known _ call.first c.in_ok-numbers.ensures c.in_ok-places.ensures
    ∙ ap (λ numbers. option_and_then (place_among numbers) (place_among known call.first)) c.as_slice.ensures in
    let held = c.deref.ensures.value ∙ c.in_ok-held.ensures ∙ ap (held_along history) c.as_slice-2.ensures in
    let place = c.place_along-place.ensures ∙ (λ i. option_map (place_along (held i)) (number i)) in
    marks_more (stuck_note c.args.stuck.now c.args.explanation.now history) c.args.calls.now l.number d l.marks.items c.push_note.new.marks.items
    c.loop-number-test.true l.invariant
    (c.in_ok-push_note.ensures ∙ ap (λ note. l.marks.items ++ option_to_list (mark_at l.number note))
    (c.stuck_note-note.ensures ∙ (λ i. stuck_note_with c.args.stuck.now.end (named i) (pending i) (place i) call)))
