use Rattle.std.proofs.Common.{sym, ◌∙◌}
use Rattle.std.proofs.lemmas.Bool.{false≢true}
use Rattle.jh_txn_edges.proofs.StepLemmas.{on_ok_then}
use Rattle.jh_txn_points.proofs.PointStepLemmas.{step_added}
use Rattle.jh_txn_points.proofs.kept.add_kept_step.Goals as goal
use Rattle.jh_txn_points.proofs.kept.add_kept_step.Goals.{then-is_key_hub, else-is_key_hub}

pub returns-else-is_key_hub-2 : goal.returns-else-is_key_hub-2
returns-else-is_key_hub-2 c = elim c.if-is_key_hub.branch [
  | then-is_key_hub w ↦ absurd (false≢true (sym c.if-is_key_hub-2.false ∙ w.value-is ∙ w.if-is_key_hub.true))
  | else-is_key_hub w ↦ on_ok_then c.add.result _ _ (step_added c.args.count c.args.graph.now c.add.new.graph c.args.keys c.args.step c.args.node c.leaving-place.result c.arriving.result
      (λ h. false≢true (sym w.if-is_key_hub.false ∙ c.is_key_hub.ensures.1 h))
      (λ h. false≢true (sym c.if-is_key_hub-2.false ∙ w.value-is ∙ w.is_key_hub-else-is_key_hub.ensures.1 h))
      c.leaving-place.ensures c.arriving.ensures) c.add.ensures
]
