use Rattle.std.proofs.Common.{inl, inr}
use Rattle.jh_txn_edges.specs.Moments.{IsAnyCompletionStep, IsAnyInvocationStep, IsMomentStep, IsNextStep}
use Rattle.jh_txn_edges.proofs.StepLemmas.{EitherStep, adds_if, adds_then, on_ok_then}
use Rattle.jh_txn_edges.proofs.moments.add_moment_steps.Goals as goal

pub returns : goal.returns
returns c =
    let txns = c.args.txns.now in
    let there = c.args.there.now in
    let moments = c.args.moments.now in
    let first = c.args.first in
    let old = c.args.graph.now in
    let one = c.add_completions.new.graph in
    let two = c.add_nexts.new.graph in
    let new = c.add_invocations.new.graph in
    on_ok_then c.add_invocations.result _ _ (λ h.
    adds_if (EitherStep (EitherStep (IsAnyCompletionStep txns moments first) (IsNextStep moments first)) (IsAnyInvocationStep txns there moments first)) (IsMomentStep txns there moments first) old new
    (λ p w t e. elim e as (λ _. IsMomentStep txns there moments first p w t) [
      | inl early ↦ elim early as (λ _. IsMomentStep txns there moments first p w t) [ inl d ↦ inl d | inr d ↦ inr (inl d) ]
      | inr d ↦ inr (inr d)
    ])
    (λ p w t e. elim e as (λ _. EitherStep (EitherStep (IsAnyCompletionStep txns moments first) (IsNextStep moments first)) (IsAnyInvocationStep txns there moments first) p w t) [
      | inl d ↦ inl (inl d)
      | inr late ↦ elim late as (λ _. EitherStep (EitherStep (IsAnyCompletionStep txns moments first) (IsNextStep moments first)) (IsAnyInvocationStep txns there moments first) p w t) [ inl d ↦ inl (inr d) | inr d ↦ inr d ]
    ])
    (adds_then (EitherStep (IsAnyCompletionStep txns moments first) (IsNextStep moments first)) (IsAnyInvocationStep txns there moments first) old two new
    (adds_then (IsAnyCompletionStep txns moments first) (IsNextStep moments first) old one two c.in_ok-add_completions.ensures c.in_ok-add_nexts.ensures) h)) c.add_invocations.ensures
