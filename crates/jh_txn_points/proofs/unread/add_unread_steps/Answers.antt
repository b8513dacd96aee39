use Rattle.std.proofs.Common.{inl, inr, None, sym, ◌∙◌, arith}
use Rattle.std.proofs.lemmas.Bool.{cases_lt}
use Rattle.std.proofs.lemmas.List.{get_or_past}
use Rattle.std.proofs.lemmas.Option.{none-some}
use Rattle.jh_txn_edges.proofs.StepLemmas.{StepsBelow, adds_if, adds_more}
use Rattle.jh_txn_points.specs.PointSteps.{IsAnyUnreadPointStep, IsUnreadPointStep}
use Rattle.jh_txn_points.proofs.unread.add_unread_steps.Goals as goal

pub loop-element-preserved : goal.loop-element-preserved
loop-element-preserved c = adds_more (IsUnreadPointStep c.args.count c.args.writers.now c.args.there.now c.args.marks.now c.args.longest.now c.args.middles.now) c.loop-element.element c.args.graph.now c.loop-element.graph c.add_unread_step.new.graph c.loop-element.invariant c.in_ok-add_unread_step.ensures

pub returns : goal.returns
returns c =
    let i = c.loop-element.element in
    let writers = c.args.writers.now in
    let Step = IsUnreadPointStep c.args.count writers c.args.there.now c.args.marks.now c.args.longest.now c.args.middles.now in
    adds_if (StepsBelow Step i) (IsAnyUnreadPointStep c.args.count writers c.args.there.now c.args.marks.now c.args.longest.now c.args.middles.now) c.args.graph.now c.loop-element.graph
    (λ p w t h. (h.0, h.2))
    (λ p w t h. elim (cases_lt h.0 i) as (λ _. StepsBelow Step i p w t) [
      | inl lt ↦ (h.0, lt, h.1)
      | inr ge ↦ absurd (none-some h.1.0 (sym (get_or_past writers h.0 None (omega (arith, ge, c.loop-element-test.false))) ∙ h.1.1))
    ]) c.loop-element.invariant
