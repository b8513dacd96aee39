use Rattle.std.proofs.Common.{inl, inr, sym, ◌∙◌, arith}
use Rattle.std.proofs.lemmas.Bool.{cases_lt, false≢true}
use Rattle.std.proofs.lemmas.List.{get_or_past}
use Rattle.std.proofs.Common.{false}
use Rattle.jh_txn_edges.specs.Moments.{IsAnyInvocationStep, IsInvocationStep}
use Rattle.jh_txn_edges.proofs.StepLemmas.{StepsBelow, adds_if, adds_more, adds_none_below}
use Rattle.jh_txn_edges.proofs.moments.add_invocations.Goals as goal

pub loop-place-init : goal.loop-place-init
loop-place-init c = adds_none_below (IsInvocationStep c.args.txns.now c.args.there.now c.args.moments.now c.args.first) c.args.graph.now

pub loop-place-preserved : goal.loop-place-preserved
loop-place-preserved c = adds_more (IsInvocationStep c.args.txns.now c.args.there.now c.args.moments.now c.args.first) c.loop-place.place c.args.graph.now c.loop-place.graph c.add_invocation.new.graph c.loop-place.invariant c.in_ok-add_invocation.ensures

pub returns : goal.returns
returns c =
    let place = c.loop-place.place in
    adds_if (StepsBelow (IsInvocationStep c.args.txns.now c.args.there.now c.args.moments.now c.args.first) place) (IsAnyInvocationStep c.args.txns.now c.args.there.now c.args.moments.now c.args.first) c.args.graph.now c.loop-place.graph
    (λ p w t h. (h.0, h.2))
    (λ p w t h. elim (cases_lt h.0 place) as (λ _. StepsBelow (IsInvocationStep c.args.txns.now c.args.there.now c.args.moments.now c.args.first) place p w t) [
      | inl lt ↦ (h.0, lt, h.1)
      | inr ge ↦ absurd (false≢true (sym (get_or_past c.args.there.now h.0 false (omega (arith, ge, c.loop-place-test.false, c.requires.count))) ∙ h.1.1))
    ]) c.loop-place.invariant
