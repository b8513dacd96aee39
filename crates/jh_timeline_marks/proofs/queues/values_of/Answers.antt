use Rattle.std.proofs.Common.{ap, ◌∙◌}
use Rattle.jh_edn.specs.Order.{in_order, is_below}
use Rattle.jh_timeline_marks.specs.Marked.{counted_values}
use Rattle.jh_timeline_marks.specs.declared.queues.QueueValues.{QueueValues}
use Rattle.jh_timeline_marks.proofs.QueueLemmas.{queue_same}
use Rattle.jh_timeline_marks.proofs.queues.values_of.Goals as goal

pub returns-clause-notes : goal.returns-clause-notes
returns-clause-notes c = λ history call.
    let values : QueueValues = record {
      lost = c.in_ok-lost.lost;
      unexpected = c.in_ok-unexpected.unexpected;
      duplicated = c.in_ok-duplicated.duplicated;
      recovered = c.in_ok-recovered.recovered;
    } in
    queue_same values c.args.found.now history call
    (c.in_ok-lost.ensures.order ∙ ap (λ t. in_order is_below (counted_values t)) c.as_slice.ensures)
    (c.in_ok-unexpected.ensures.order ∙ ap (λ t. in_order is_below (counted_values t)) c.as_slice-2.ensures)
    (c.in_ok-duplicated.ensures.order ∙ ap (λ t. in_order is_below (counted_values t)) c.as_slice-3.ensures)
    (c.in_ok-recovered.ensures.order ∙ ap (λ t. in_order is_below (counted_values t)) c.as_slice-4.ensures)
