use Rattle.std.proofs.Common.{◌∙◌, ap}
use Rattle.jh_edn.specs.View.{view}
use Rattle.jh_txn_histories.specs.ReadingInside.{found_behind, written_ops}
use Rattle.jh_txn_histories.specs.Written.{each_found, micro_op_of}
use Rattle.jh_txn_histories.proofs.ReadLemmas.{each_found-map, none_in_front}
use Rattle.jh_txn_histories.proofs.written.micro_ops_of.Goals as goal

pub loop-value-init : goal.loop-value-init
loop-value-init c =
    ap (λ ops. found_behind (written_ops ops) (each_found (λ v. micro_op_of c.args.stage (view v)) c.in-Some.values.now)) c.in_ok-ops.ensures.items
    ∙ none_in_front (each_found (λ v. micro_op_of c.args.stage (view v)) c.in-Some.values.now)
    ∙ each_found-map (micro_op_of c.args.stage) view c.in-Some.values.now
