use Rattle.std.proofs.Common.{◌∙◌, sym, rules}
use Rattle.std.specs.Ordering.{is_lt}
use Rattle.std.proofs.lemmas.List.Sorted.{IsPartitionPoint-from_clause}
use Rattle.jh_edn.specs.Order.{edn_cmp}
use Rattle.jh_edn.specs.View.{view}
use Rattle.jh_check.proofs.PartLemmas.{parted_below}
use Rattle.jh_fifo_check.proofs.NumberLemmas.{number_by_end}
use Rattle.jh_fifo_check.proofs.histories.value_number.Goals as goal

pub returns : goal.returns
returns c =
    let vs = c.args.values.now in
    let x = view c.args.value.now in
    let below = IsPartitionPoint-from_clause (λ v. is_lt (edn_cmp (view v) x)) vs c.partition_point.result c.partition_point.ensures.partitioned (parted_below x vs c.requires) (λ a r q k. search rules) in
    sym (number_by_end x vs c.partition_point.result c.partition_point.ensures.bound below)
