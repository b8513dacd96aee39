use Rattle.jh_txn_edges.proofs.StepLemmas.{on_ok_then}
use Rattle.jh_txn_points.proofs.ForkStepLemmas.{wins_added, wins_none}
use Rattle.jh_txn_points.proofs.fork.add_win_steps.Goals as goal

pub returns-in-None : goal.returns-in-None
returns-in-None c = wins_none c.args.count c.args.writers.now c.args.there.now c.args.read.now c.args.graph.now c.args.graph.now c.in-None.ensures

pub returns-in_ok-marks-in-Some : goal.returns-in_ok-marks-in-Some
returns-in_ok-marks-in-Some c =
    on_ok_then c.add_win_steps_of.result _ _ (wins_added c.args.count c.args.writers.now c.args.there.now c.args.read.now c.args.graph.now c.add_win_steps_of.new.graph c.in-Some.own c.in-Some.ensures) c.add_win_steps_of.ensures
