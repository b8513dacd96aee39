use Rattle.std.proofs.Common.{ℕ, ap, ◌∙◌}
use Rattle.std.specs.Prelude.{ℤ}
use Rattle.std.proofs.lemmas.Cmp.{nat_cmp_total}
use Rattle.std.proofs.lemmas.List.MinMax.{ranks_by}
use Rattle.std.proofs.lemmas.List.Sorted.{answers_always}
use Rattle.jh_edn.specs.Order.{in_order}
use Rattle.jh_edn.proofs.CitedLemmas.{sorted_is}
use Rattle.jh_env.specs.FaultOrder.{is_bump_before}
use Rattle.jh_env.proofs.fault_order.sorted_bumps.Goals as goal

pub returns : goal.returns
returns c =
    let sorted = c.in_ok-sort_by.ensures in
    let ranks = ranks_by nat_cmp_total (λ (b : ℕ × ℤ). b.0) in
    sorted_is is_bump_before ranks c.in_ok-sorted.sorted.items c.sort_by.new.self.items
    (sorted.sorted is_bump_before ranks (answers_always _ _ _ (λ f a r f' k. k.met)))
    (sorted.stable is_bump_before ranks (answers_always _ _ _ (λ f a r f' k. k.met)))
    ∙ ap (in_order is_bump_before) c.in_ok-sorted.ensures.items
