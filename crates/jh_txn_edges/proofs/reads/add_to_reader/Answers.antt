use Rattle.std.proofs.Common.{sym, subst, ◌∙◌}
use Rattle.std.proofs.lemmas.Option.{same_Some, none-some}
use Rattle.jh_txn_edges.specs.Steps.{IsShownStep, IsToReader}
use Rattle.jh_txn_edges.proofs.StepLemmas.{adds_if, adds_none, at_last, last_at, on_ok_then}
use Rattle.jh_txn_edges.proofs.reads.add_to_reader.Goals as goal

pub returns-in-None : goal.returns-in-None
returns-in-None c = adds_none (IsToReader c.args.writers.now c.args.read.now) c.args.graph.now (λ p w t h. none-some h.0 (c.in-None.ensures.value ∙ at_last c.args.read.now.seen.now h.0 h.1))

pub returns-in-Some : goal.returns-in-Some
returns-in-Some c =
    let writers = c.args.writers.now in
    let read = c.args.read.now in
    let element = c.in-Some.element.now in
    on_ok_then c.add_shown_step.result _ _ (adds_if (IsShownStep writers read element) (IsToReader writers read) c.args.graph.now c.add_shown_step.new.graph
    (λ p w t h. (element, last_at read.seen.now element (sym c.in-Some.ensures.value), h))
    (λ p w t h. subst (λ x. IsShownStep writers read x p w t) (same_Some h.0 element (sym (at_last read.seen.now h.0 h.1) ∙ sym c.in-Some.ensures.value)) h.2)) c.add_shown_step.ensures
