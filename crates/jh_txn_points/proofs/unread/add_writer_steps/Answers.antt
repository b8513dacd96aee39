use Rattle.jh_txn_edges.proofs.StepLemmas.{adds_three, on_ok_then}
use Rattle.jh_txn_points.specs.PointSteps.{IsBehindStep, IsFirstCommitterStep, IsFromHubStep}
use Rattle.jh_txn_points.proofs.unread.add_writer_steps.Goals as goal

pub returns : goal.returns
returns c =
    on_ok_then c.add_first_committer_step.result _ _ (adds_three (IsFromHubStep c.args.count c.args.writer.now c.args.element) (IsBehindStep c.args.count c.args.writers.now c.args.longest.now c.args.writer.now) (IsFirstCommitterStep c.args.count c.args.middles.now c.args.writer.now) c.args.graph.now c.add.new.graph c.add_behind_step.new.graph c.add_first_committer_step.new.graph c.in_ok-add.ensures c.in_ok-add_behind_step.ensures) c.add_first_committer_step.ensures
