use Rattle.std.proofs.Common.{ltb, arith, rules}
use Rattle.std.proofs.lemmas.Bool.{ltb-true, ltb-false}
use Rattle.std.proofs.lemmas.List.Sorted.{IsNonDecreasingBy-from_default, IsPartitionedBy-ltb, IsPartitionPoint-from_clause}
use Rattle.jh_plots.specs.declared.thresholds.TheConstants.{THRESHOLDS}
use Rattle.jh_plots.proofs.PositionLemmas.{roots_rise, table_of_roots}
use Rattle.jh_plots.proofs.latency.thresholds_below.Goals as goal

pub returns : goal.returns
returns c =
    let number = c.args.number in
    let point = IsPartitionPoint-from_clause (λ y. ltb y number) THRESHOLDS c.partition_point.result c.partition_point.ensures.partitioned
    (IsPartitionedBy-ltb (λ x. x) THRESHOLDS number (IsNonDecreasingBy-from_default (λ x. x) THRESHOLDS 0 (roots_rise 10 100 1801 THRESHOLDS (omega arith) table_of_roots))) (λ a r f q. search rules) in
    record {
      within = c.partition_point.ensures.bound;
      before = λ k low. ltb-true _ _ (point.0 k 0 (omega arith) low);
      behind = λ k from low. ltb-false _ _ (point.1 k 0 from low);
    }
