use Rattle.std.proofs.Common.{None, get_or, ◌++◌, ap, ◌∙◌}
use Rattle.std.specs.Prelude.{slice_get}
use Rattle.std.specs.Option.{option_and_then, option_to_list}
use Rattle.jh_ops.specs.Operation.{operations}
use Rattle.jh_timeline.specs.declared.picture.Call.{Call}
use Rattle.jh_timeline_marks.specs.Marked.{counter_note, mark_at, outside_note, place_among}
use Rattle.jh_timeline_marks.proofs.MarkLemmas.{marks_more}
use Rattle.jh_timeline_marks.proofs.counter.counter_marks.Goals as goal

pub loop-number-preserved : goal.loop-number-preserved
loop-number-preserved c =
    let l = c.loop-number in
    let d : Call = record { client = 0; first = 0; completion = None; last = 0 } in
    let call = get_or c.args.calls.now l.number d in
    let history = operations c.args.history.now in
    let ends = c.deref.ensures.value ∙ c.in_ok-ends.ensures in
    marks_more (counter_note c.args.reads.now history) c.args.calls.now l.number d l.marks.items c.push_note.new.marks.items c.loop-number-test.true l.invariant
    (c.in_ok-push_note.ensures ∙ ap (λ note. l.marks.items ++ option_to_list (mark_at l.number note)) (c.counter_note.ensures
    ∙ (λ i. option_and_then outside_note (option_and_then (λ index. option_and_then (slice_get c.args.reads.now) (c.in_ok-places.ensures index i)) call.completion))
    ∙ (λ i. option_and_then outside_note (option_and_then (λ index. option_and_then (slice_get c.args.reads.now) (place_among (ends i) index)) call.completion))))
