use Rattle.std.proofs.Common.{◌<◌, length, get_or, sym, ◌∙◌}
use Rattle.std.proofs.lemmas.Bool.{false≢true}
use Rattle.std.proofs.lemmas.Option.{none-some, slice_get-get_or}
use Rattle.jh_txn_seen.proofs.MiddleLemmas.{no_middle}
use Rattle.jh_txn_edges.proofs.MiddleStepLemmas.{unread_added, unread_none}
use Rattle.jh_txn_edges.proofs.StepLemmas.{on_ok_then}
use Rattle.jh_txn_edges.proofs.unread.add_unread_step.Goals as goal

pub returns-in-None : goal.returns-in-None
returns-in-None c = unread_none c.args.writers.now c.args.there.now c.args.marks.now c.args.middles.now c.args.element c.args.graph.now (λ writer is _ _. none-some writer (sym c.in-None.is ∙ is))

pub returns-then-not-is_marked : goal.returns-then-not-is_marked
returns-then-not-is_marked c =
    let writer = c.in-Some.writer in
    let middles = c.args.middles.now in
    let low : writer.key < length middles = c.requires.keys c.args.element writer c.in-Some.is in
    on_ok_then c.add_other.result _ _ (unread_added c.args.writers.now c.args.there.now c.args.marks.now middles c.args.element writer (get_or middles writer.key no_middle) c.args.graph.now c.add_other.new.graph c.in-Some.is (sym c.if-is_marked.ensures) (λ h. false≢true (c.if-not-is_marked.ensures ∙ h)) (slice_get-get_or middles writer.key no_middle low)) c.add_other.ensures
