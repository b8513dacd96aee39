use Rattle.std.proofs.Common.{◌≡◌, IfOk, subst}
use Rattle.jh_edn.specs.Order.{in_order, is_below}
use Rattle.jh_edn.specs.View.{views}
use Rattle.jh_timeline_marks.proofs.values.sorted_missing.Goals as goal

pub returns-clause-order : goal.returns-clause-order
returns-clause-order c =
    subst (λ missing. IfOk c.in_normal_order.result (λ sorted. views sorted.items ≡ in_order is_below missing))
    c.in_ok-missing.ensures c.in_normal_order.ensures.order
