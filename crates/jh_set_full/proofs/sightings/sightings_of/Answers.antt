use Rattle.std.proofs.Common.{sym, arith, rules}
use Rattle.std.specs.Ordering.{is_le, is_lt}
use Rattle.std.proofs.lemmas.List.Sorted.{IsPartitionPoint-from_clause}
use Rattle.jh_edn.specs.Order.{edn_cmp}
use Rattle.jh_edn.specs.View.{view}
use Rattle.jh_set_full.proofs.SightingLemmas.{ends_ordered, part_is, parted_below, parted_within}
use Rattle.jh_set_full.proofs.sightings.sightings_of.Goals as goal

pub returns-then-begin-end : goal.returns-then-begin-end
returns-then-begin-end c =
    let ss = c.args.sightings.now in
    let x = view c.args.element.now in
    let begin = c.partition_point-begin.result in
    let end = c.partition_point-end.result in
    let below = IsPartitionPoint-from_clause (λ s. is_lt (edn_cmp (view s.element) x)) ss begin c.partition_point-begin.ensures.partitioned (parted_below x ss c.requires) (λ a r q k. search rules) in
    let within = IsPartitionPoint-from_clause (λ s. is_le (edn_cmp (view s.element) x)) ss end c.partition_point-end.ensures.partitioned (parted_within x ss c.requires) (λ a r q k. search rules) in
    let part = part_is x ss begin end c.partition_point-begin.ensures.bound c.partition_point-end.ensures.bound below within in
    sym part

pub returns-else-begin-end : goal.returns-else-begin-end
returns-else-begin-end c =
    let ss = c.args.sightings.now in
    let x = view c.args.element.now in
    let begin = c.partition_point-begin.result in
    let end = c.partition_point-end.result in
    let below = IsPartitionPoint-from_clause (λ s. is_lt (edn_cmp (view s.element) x)) ss begin c.partition_point-begin.ensures.partitioned (parted_below x ss c.requires) (λ a r q k. search rules) in
    let within = IsPartitionPoint-from_clause (λ s. is_le (edn_cmp (view s.element) x)) ss end c.partition_point-end.ensures.partitioned (parted_within x ss c.requires) (λ a r q k. search rules) in
    let ordered = ends_ordered x ss begin end c.partition_point-begin.ensures.bound c.partition_point-end.ensures.bound below within in
    absurd (omega (arith, ordered, c.if-begin-end.false))
