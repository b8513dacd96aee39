use Rattle.std.proofs.Common.{ltb, arith, rules}
use Rattle.std.proofs.lemmas.Bool.{ltb-true, ltb-false}
use Rattle.std.proofs.lemmas.List.Sorted.{IsNonDecreasingBy-from_default, IsPartitionedBy-ltb, IsPartitionPoint-from_clause}
use Rattle.jh_txn_edges.proofs.moments.point_of.Goals as goal

pub returns : goal.returns
returns c =
    let xs = c.args.moments.now in
    let index = c.args.index in
    let point = IsPartitionPoint-from_clause (λ y. ltb y index) xs c.partition_point.result c.partition_point.ensures.partitioned (IsPartitionedBy-ltb (λ x. x) xs index (IsNonDecreasingBy-from_default (λ x. x) xs 0 c.requires)) (λ a r f q. search rules) in
    record {
      within = c.partition_point.ensures.bound;
      before = λ k low. ltb-true _ _ (point.0 k 0 (omega arith) low);
      behind = λ k from low. ltb-false _ _ (point.1 k 0 from low);
    }
