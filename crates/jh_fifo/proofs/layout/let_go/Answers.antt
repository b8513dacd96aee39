use Rattle.std.proofs.Common.{◌≡◌, ◌+◌, ◌≤◌, sym, ap, subst, ◌∙◌}
use Rattle.jh_fifo.specs.Layout.{IsLaid}
use Rattle.jh_fifo.specs.Spans.{span_at}
use Rattle.jh_fifo.proofs.LayoutLemmas.{goes_some, goes_next, not_some}
use Rattle.jh_fifo.proofs.layout.let_go.Goals.{in-Some+in_ok-push, in_default}
use Rattle.jh_fifo.proofs.layout.let_go.Goals as goal

pub loop-number-preserved : goal.loop-number-preserved
loop-number-preserved c = λ ops once turn some_time later laid.
    let l = c.loop-number in
    let spans = c.args.spans.now in
    let come = c.args.come in
    let so_far = l.invariant ops once turn some_time later laid in
    let is : c.span_of-span.result ≡ span_at spans l.number = c.span_of-span.ensures in
    let due : (span_at spans l.number).leaving ≤ c.args.until = subst (λ s. s.leaving ≤ c.args.until) is c.if-until-span.false in
    elim c.match-span.branch as (λ _. IsLaid ops spans (l.number + 1) come c.match-span.order.items) [
      | in-Some+in_ok-push w ↦
          subst (λ v. IsLaid ops spans (l.number + 1) come v) (sym (ap (λ o. o.items) w.order-is ∙ w.in_ok-push.ensures.items))
          (goes_next ops spans once turn l.number come l.order.items so_far c.args.until c.requires.bound some_time later c.loop-number-test.true due w.in-Some.dequeue (sym (ap (λ s. s.dequeue) is) ∙ w.in-Some.is))
      | in_default w ↦ absurd (goes_some ops spans once turn l.number come l.order.items so_far c.args.until c.requires.bound some_time later c.loop-number-test.true due (sym (ap (λ s. s.dequeue) is) ∙ not_some c.span_of-span.result.dequeue w.in_default.not-Some))
    ]
