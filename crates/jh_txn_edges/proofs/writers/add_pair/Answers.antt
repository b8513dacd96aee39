use Rattle.jh_txn_edges.proofs.StepLemmas.{pair_added, on_ok_then}
use Rattle.jh_txn_edges.proofs.writers.add_pair.Goals as goal

pub returns-in-Some-writer_of : goal.returns-in-Some-writer_of
returns-in-Some-writer_of c =
    on_ok_then c.add_other.result _ _ (pair_added c.args.writers.now c.args.graph.now c.add_other.new.graph c.args.key c.args.one c.args.other c.in-Some.place c.in-Some-writer_of.target c.in-Some.ensures c.in-Some-writer_of.ensures) c.add_other.ensures
