use Rattle.std.proofs.Common.{◌≡◌, false, inl, inr, sym, subst, ◌∙◌}
use Rattle.std.proofs.lemmas.Bool.{cases_Bool, false≢true}
use Rattle.std.proofs.lemmas.Option.{same_Some}
use Rattle.jh_txn.specs.Transactions.{includes}
use Rattle.jh_txn_edges.specs.Graph.{IsLackedThere}
use Rattle.jh_txn_seen.specs.Marks.{IsMarked}
use Rattle.jh_txn_edges.specs.Steps.{IsLackedStep}
use Rattle.jh_txn_edges.proofs.StepLemmas.{adds_if, on_ok_then}
use Rattle.jh_txn_edges.proofs.fork.add_lacked_if.Goals as goal

pub returns-then-not-is_marked : goal.returns-then-not-is_marked
returns-then-not-is_marked c =
    let writers = c.args.writers.now in
    let read = c.args.read.now in
    let element = c.args.element in
    let none : includes read.seen.now element ≡ false = elim (cases_Bool (includes read.seen.now element)) as (λ _. includes read.seen.now element ≡ false) [
      | inl seen ↦ absurd (false≢true (c.if-not-is_marked.ensures ∙ (c.requires.marks element).1 seen))
      | inr lacks ↦ lacks
    ] in
    on_ok_then c.add_lacked_step.result _ _ (adds_if (IsLackedStep writers read element) (IsLackedThere writers c.args.there.now read element) c.args.graph.now c.add_lacked_step.new.graph
    (λ p w t h. (none, subst (IsMarked c.args.there.now) (same_Some c.in-Some.writer t (c.in-Some.ensures ∙ h.1)) (sym c.if-is_marked.ensures), h))
    (λ p w t h. h.2)) c.add_lacked_step.ensures
