use Rattle.jh_txn_edges.specs.Inside.{IsOther, IsThis}
use Rattle.jh_txn_edges.proofs.StepLemmas.{adds_if, on_ok_then}
use Rattle.jh_txn_edges.proofs.steps.add_other.Goals as goal

pub returns-else-step-node : goal.returns-else-step-node
returns-else-step-node c =
    on_ok_then c.add.result _ _ (adds_if (IsThis c.args.step c.args.node) (IsOther c.args.step c.args.node) c.args.graph.now c.add.new.graph (λ p w t h. (c.if-step-node.false, h.0, h.1, h.2)) (λ p w t h. (h.1, h.2, h.3))) c.add.ensures
