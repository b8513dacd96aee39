use Rattle.std.proofs.Common.{◌≡◌, IfOk, ap, subst, take, ◌∙◌}
use Rattle.std.specs.Prelude.{codes}
use Rattle.std.specs.Option.{option_map_or}
use Rattle.jh_edn.specs.Order.{in_order, is_below}
use Rattle.jh_edn.specs.View.{views}
use Rattle.jh_ops.specs.Operation.{operations}
use Rattle.jh_ops.specs.declared.operation.Kind.{Kind}
use Rattle.jh_check.specs.Asked.{values_of}
use Rattle.jh_check.specs.SetResults.{final_read}
use Rattle.jh_timeline_marks.proofs.MarkLemmas.{before_same, late_are}
use Rattle.jh_timeline_marks.proofs.set.late_losses.Goals as goal

pub returns-clause-order : goal.returns-clause-order
returns-clause-order c =
    let history = c.args.history.now in
    let records = ap operations (c.records_before.ensures ∙ ap (λ read. option_map_or (λ place. take place history) read history) c.requires)
    ∙ before_same history (final_read (operations history)) in
    let acknowledged = ap views c.deref.ensures.value ∙ c.in_ok-acknowledged.ensures.values ∙ ap (λ ops. in_order is_below (values_of Kind.Ok (codes "add") ops)) records in
    subst (λ late. IfOk c.sorted_missing.result (λ kept. views kept.items ≡ in_order is_below late))
    (late_are (views c.as_slice.result.now) (views c.deref.result.now) c.args.found.now (operations history) c.as_slice.ensures acknowledged)
    c.sorted_missing.ensures.order
