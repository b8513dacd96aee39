use Rattle.std.proofs.Common.{◌∙◌, sym, rules}
use Rattle.std.specs.Ordering.{is_le, is_lt}
use Rattle.std.proofs.lemmas.List.Sorted.{IsPartitionPoint-from_clause}
use Rattle.jh_edn.specs.Order.{edn_cmp}
use Rattle.jh_edn.specs.View.{view}
use Rattle.jh_check.proofs.PartLemmas.{parted_below, parted_within}
use Rattle.jh_total_queue.proofs.CountLemmas.{count_by_ends}
use Rattle.jh_total_queue.proofs.lists.count_in.Goals as goal

pub returns : goal.returns
returns c =
    let vs = c.args.values.now in
    let x = view c.args.value.now in
    let below = IsPartitionPoint-from_clause (λ v. is_lt (edn_cmp (view v) x)) vs c.partition_point-begin.result c.partition_point-begin.ensures.partitioned (parted_below x vs c.requires) (λ a r q k. search rules) in
    let within = IsPartitionPoint-from_clause (λ v. is_le (edn_cmp (view v) x)) vs c.partition_point-end.result c.partition_point-end.ensures.partitioned (parted_within x vs c.requires) (λ a r q k. search rules) in
    c.saturating_sub.ensures
    ∙ sym (count_by_ends x vs c.partition_point-begin.result c.partition_point-end.result c.partition_point-begin.ensures.bound c.partition_point-end.ensures.bound below within)
