use Rattle.jh_txn_edges.specs.Graph.{IsAnyLackedStep, IsAnyShownStep}
use Rattle.jh_txn_edges.specs.Steps.{IsAlong}
use Rattle.jh_txn_edges.proofs.StepLemmas.{adds_three, on_ok_then}
use Rattle.jh_txn_edges.proofs.fork.add_whole_read.Goals as goal

pub returns : goal.returns
returns c =
    let writers = c.args.writers.now in
    let read = c.args.read.now in
    on_ok_then c.add_lacked.result _ _ (adds_three (IsAnyShownStep writers read) (IsAlong writers read.key read.seen.now) (IsAnyLackedStep writers c.args.there.now read) c.args.graph.now c.add_shown.new.graph c.add_along.new.graph c.add_lacked.new.graph c.in_ok-add_shown.ensures c.in_ok-add_along.ensures) c.add_lacked.ensures
