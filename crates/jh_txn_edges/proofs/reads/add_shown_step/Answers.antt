use Rattle.jh_txn_edges.proofs.StepLemmas.{shown_added, on_ok_then}
use Rattle.jh_txn_edges.proofs.reads.add_shown_step.Goals as goal

pub returns-in-Some : goal.returns-in-Some
returns-in-Some c =
    on_ok_then c.add_other.result _ _ (shown_added c.args.writers.now c.args.graph.now c.add_other.new.graph c.args.read.now c.args.element c.in-Some.place c.in-Some.ensures) c.add_other.ensures
