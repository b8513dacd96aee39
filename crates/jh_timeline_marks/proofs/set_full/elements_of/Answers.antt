use Rattle.std.proofs.Common.{ap, map, ◌∙◌}
use Rattle.jh_edn.specs.Order.{in_order, is_below}
use Rattle.jh_timeline_marks.specs.declared.set_full.TimedElements.{TimedElements}
use Rattle.jh_timeline_marks.proofs.QueueLemmas.{timed_same}
use Rattle.jh_timeline_marks.proofs.set_full.elements_of.Goals as goal

pub returns-clause-notes : goal.returns-clause-notes
returns-clause-notes c = λ history call.
    let elements : TimedElements = record { lost = c.in_ok-lost.lost; stale = c.in_ok-stale.stale } in
    timed_same elements c.args.found.now history call
    (c.in_ok-lost.ensures.order ∙ ap (in_order is_below) c.as_slice.ensures)
    (c.in_ok-stale.ensures.order ∙ ap (λ stales. in_order is_below (map (λ one. one.0) stales)) c.as_slice-2.ensures)
