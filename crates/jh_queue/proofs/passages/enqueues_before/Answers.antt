use Rattle.std.proofs.Common.{◌∙◌, refl, rules}
use Rattle.std.specs.Ordering.{is_lt}
use Rattle.std.proofs.lemmas.List.Sorted.{IsPartitionPoint-from_clause}
use Rattle.jh_edn.specs.Order.{edn_cmp}
use Rattle.jh_edn.specs.View.{view}
use Rattle.jh_queue.specs.QueueInside.{cmp_to, passage, passages}
use Rattle.jh_queue.specs.declared.passages.ValueAt.{ValueAt}
use Rattle.jh_queue.proofs.OrderLemmas.{parted_value, parted_before}
use Rattle.jh_queue.proofs.CountLemmas.{between, enqueues_before_is}
use Rattle.jh_queue.proofs.passages.enqueues_before.Goals as goal

pub returns : goal.returns
returns c =
    let held = c.args.ins.now in
    let x = view c.args.value.now in
    let place = c.args.place in
    let below = IsPartitionPoint-from_clause (λ (v : ValueAt). is_lt (edn_cmp (view v.value) x)) held c.partition_point-begin.result c.partition_point-begin.ensures.partitioned (parted_value x held c.requires) (λ a r q k. search rules) in
    let within = IsPartitionPoint-from_clause (λ v. is_lt (cmp_to x place (passage v))) held c.partition_point-end.result c.partition_point-end.ensures.partitioned (parted_before x place held c.requires) (λ a r q k. search rules) in
    c.saturating_sub.ensures
    ∙ between is_lt refl refl x place held c.partition_point-begin.result c.partition_point-end.result c.partition_point-begin.ensures.bound c.partition_point-end.ensures.bound below within
    ∙ enqueues_before_is x place (passages held)
