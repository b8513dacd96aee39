use Rattle.jh_txn_edges.specs.Graph.{IsWholeReadStep}
use Rattle.jh_txn_edges.proofs.StepLemmas.{adds_then, on_ok_then}
use Rattle.jh_txn_edges.proofs.fork.add_both.Goals as goal

pub returns : goal.returns
returns c =
    on_ok_then c.add_whole_read-2.result _ _ (adds_then (IsWholeReadStep c.args.writers.now c.args.there.now c.args.one.now) (IsWholeReadStep c.args.writers.now c.args.there.now c.args.other.now) c.args.graph.now c.add_whole_read.new.graph c.add_whole_read-2.new.graph c.in_ok-add_whole_read.ensures) c.add_whole_read-2.ensures
