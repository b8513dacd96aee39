use Rattle.std.proofs.Common.{None, get_or, ◌++◌, ap, ◌∙◌}
use Rattle.std.specs.Option.{option_map, option_to_list}
use Rattle.jh_ops.specs.Operation.{operations}
use Rattle.jh_timeline.specs.declared.marks.Note.{Note}
use Rattle.jh_timeline.specs.declared.picture.Call.{Call}
use Rattle.jh_timeline_marks.specs.Marked.{invocations_of, mark_at, place_along, placed_note}
use Rattle.jh_timeline_marks.proofs.MarkLemmas.{marks_more, through}
use Rattle.jh_timeline_marks.proofs.orders.placed_marks.Goals as goal

pub loop-number-preserved : goal.loop-number-preserved
loop-number-preserved c =
    let l = c.loop-number in
    let d : Call = record { client = 0; first = 0; completion = None; last = 0 } in
    let call = get_or c.args.calls.now l.number d in
    let history = operations c.args.history.now in
    marks_more (placed_note c.args.held.now c.args.order.now history) c.args.calls.now l.number d l.marks.items c.push_note.new.marks.items c.loop-number-test.true l.invariant
    (c.in_ok-push_note.ensures ∙ ap (λ note. l.marks.items ++ option_to_list (mark_at l.number note)) (c.placed.ensures ∙ ap (option_map Note.Placed) c.place_along-place.ensures ∙ ap (λ place. option_map Note.Placed (option_map (place_along c.args.held.now) place))
    (c.place_through.ensures
    ∙ through c.in_ok-numbers.numbers c.in_ok-places.places (invocations_of history) c.args.order.now call.first c.in_ok-numbers.ensures c.in_ok-places.ensures)))
