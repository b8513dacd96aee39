use Rattle.std.proofs.Common.{◌≡◌, ap, sym, subst}
use Rattle.std.specs.Ordering.{is_lt}
use Rattle.std.proofs.lemmas.List.MinMax.{ranks_by}
use Rattle.std.proofs.lemmas.List.Sorted.{answers_always}
use Rattle.jh_edn.specs.Order.{in_order, is_below}
use Rattle.jh_edn.specs.View.{view, views}
use Rattle.jh_edn.proofs.CitedLemmas.{held_below, sorted_items}
use Rattle.jh_edn.proofs.CitedLemmas.{edn_total}
use Rattle.jh_check.specs.Distinct.{Ascends}
use Rattle.jh_check.proofs.DistinctLemmas.{sorted_ascends}
use Rattle.jh_check.proofs.asked.in_normal_order.Goals as goal

views_in_order : (c : goal.In_ok-sort_by) → views c.sort_by.new.self.items ≡ in_order is_below (views c.args.values.items)
views_in_order c =
    let sorted = c.in_ok-sort_by.ensures in
    let ranks = ranks_by edn_total view in
    sorted_items c.args.values.items c.sort_by.new.self.items
    (sorted.sorted held_below ranks (answers_always _ _ _ (λ f a r f' k. ap is_lt k.met)))
    (sorted.stable held_below ranks (answers_always _ _ _ (λ f a r f' k. ap is_lt k.met)))

pub returns-clause-order : goal.returns-clause-order
returns-clause-order c = views_in_order c

pub returns-clause-ascends : goal.returns-clause-ascends
returns-clause-ascends c = subst Ascends (sym (views_in_order c)) (sorted_ascends (views c.args.values.items))
