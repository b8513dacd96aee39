use Rattle.std.proofs.Common.{sym}
use Rattle.jh_txn_edges.proofs.StepLemmas.{last_at, on_ok_then}
use Rattle.jh_txn_points.proofs.PointStepLemmas.{behind_added}
use Rattle.jh_txn_points.proofs.unread.add_behind_step.Goals as goal

pub returns-in-Some-last : goal.returns-in-Some-last
returns-in-Some-last c =
    let read = c.in-Some.read in
    let last = c.in-Some-last.last.now in
    on_ok_then c.add_last_step.result _ _ (behind_added c.args.count c.args.graph.now c.add_last_step.new.graph c.args.writers.now c.args.longest.now c.args.writer.now read last c.in-Some.is (last_at read.seen.now last (sym c.in-Some-last.ensures.value))) c.add_last_step.ensures
