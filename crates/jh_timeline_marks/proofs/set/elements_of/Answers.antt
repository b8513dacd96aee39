use Rattle.std.proofs.Common.{ap, not, ◌∙◌}
use Rattle.jh_edn.specs.Order.{in_order, is_below}
use Rattle.jh_ops.specs.Operation.{operations}
use Rattle.jh_timeline_marks.specs.declared.set.Elements.{Elements}
use Rattle.jh_timeline_marks.proofs.MarkLemmas.{empty_is, found_same}
use Rattle.jh_timeline_marks.proofs.set.elements_of.Goals as goal

pub returns-clause-notes : goal.returns-clause-notes
returns-clause-notes c = λ call.
    let elements : Elements = record {
      lost = c.in_ok-lost.lost;
      late = c.in_ok-late.late;
      recovered = c.in_ok-recovered.recovered;
      read = c.final_read_at-read.result;
      is_unexpected = not c.is_empty.result;
    } in
    found_same elements c.args.found.now (operations c.args.history.now) call (c.in_ok-lost.ensures.order ∙ ap (in_order is_below) c.as_slice.ensures) c.in_ok-late.ensures.order
    (c.in_ok-recovered.ensures.order ∙ ap (in_order is_below) c.as_slice-2.ensures) c.final_read_at-read.ensures (ap not (empty_is c.is_empty.result c.args.found.now.unexpected c.is_empty.ensures.0 c.is_empty.ensures.1))
