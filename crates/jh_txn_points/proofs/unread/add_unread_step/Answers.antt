use Rattle.std.proofs.Common.{sym, ◌∙◌}
use Rattle.std.proofs.lemmas.Bool.{false≢true}
use Rattle.jh_txn_edges.proofs.StepLemmas.{on_ok_then}
use Rattle.jh_txn_points.proofs.PointStepLemmas.{unread_added}
use Rattle.jh_txn_points.proofs.unread.add_unread_step.Goals as goal

pub returns-then-not-is_marked : goal.returns-then-not-is_marked
returns-then-not-is_marked c =
    on_ok_then c.add_writer_steps.result _ _ (unread_added c.args.count c.args.graph.now c.add_writer_steps.new.graph c.args.writers.now c.args.there.now c.args.marks.now c.args.longest.now c.args.middles.now c.args.element c.in-Some.writer c.in-Some.is (sym c.if-is_marked.ensures) (λ h. false≢true (c.if-not-is_marked.ensures ∙ h))) c.add_writer_steps.ensures
