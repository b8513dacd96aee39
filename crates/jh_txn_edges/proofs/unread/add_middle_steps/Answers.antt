use Rattle.jh_txn_edges.specs.MiddleSteps.{IsAnyFullStep, IsAnyUnreadStep}
use Rattle.jh_txn_edges.proofs.StepLemmas.{adds_then, on_ok_then}
use Rattle.jh_txn_edges.proofs.unread.add_middle_steps.Goals as goal

pub returns : goal.returns
returns c =
    on_ok_then c.add_unread_steps.result _ _ (adds_then (IsAnyFullStep c.args.longest.now c.args.middles.now c.args.reads.now) (IsAnyUnreadStep c.args.writers.now c.args.there.now c.args.marks.now c.args.middles.now) c.args.graph.now c.add_full_steps.new.graph c.add_unread_steps.new.graph c.in_ok-add_full_steps.ensures) c.add_unread_steps.ensures
