use Rattle.jh_txn_edges.specs.Steps.{IsAlongStep, IsReadStep}
use Rattle.jh_txn_edges.proofs.StepLemmas.{adds_then, on_ok_then}
use Rattle.jh_txn_edges.proofs.graph.add_order_steps.Goals as goal

pub returns : goal.returns
returns c =
    on_ok_then c.add_read_steps.result _ _ (adds_then (IsAlongStep c.args.writers.now c.args.longest.now) (IsReadStep c.args.writers.now c.args.longest.now c.args.reads.now) c.args.graph.now c.add_along_all.new.graph c.add_read_steps.new.graph c.in_ok-add_along_all.ensures) c.add_read_steps.ensures
