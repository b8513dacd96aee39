use Rattle.std.proofs.Common.{◌≡◌, drop}
use Rattle.jh_edn.specs.View.{view, views}
use Rattle.jh_txn_histories.specs.ReadingInside.{found_behind, written_ops}
use Rattle.jh_txn_histories.specs.Written.{each_found, micro_op_of}
use Rattle.jh_txn_histories.proofs.written.micro_ops_of.Given as goal

abbrev pub invariant-loop-value : goal.invariant-loop-value
invariant-loop-value l =
    found_behind (written_ops l.ops.items) (each_found (λ v. micro_op_of l.stage (view v)) (drop l.value-index l.values))
    ≡ each_found (micro_op_of l.stage) (views l.values)
