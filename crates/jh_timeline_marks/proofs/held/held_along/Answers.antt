use Rattle.std.proofs.Common.{ap, get_or, ◌∙◌}
use Rattle.std.specs.Option.{option_or}
use Rattle.jh_ops.specs.Operation.{operations}
use Rattle.jh_timeline_marks.proofs.MarkLemmas.{holding_more, told_at}
use Rattle.jh_timeline_marks.proofs.held.held_along.Goals as goal

pub loop-number-preserved : goal.loop-number-preserved
loop-number-preserved c =
    let l = c.loop-number in
    holding_more (operations c.args.history.now) c.args.order.now l.number-index l.holds _ l.held.items _ c.loop-number-test.true
    (c.or-holds.ensures ∙ ap (λ told. option_or told l.holds) (c.value_at.ensures
    ∙ told_at c.deref.result.now (operations c.args.history.now) (get_or c.args.order.now l.number-index 0) (c.deref.ensures.value ∙ c.in_ok-values.ensures))) c.in_ok-push.ensures.items l.invariant
