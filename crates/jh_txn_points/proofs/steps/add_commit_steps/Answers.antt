use Rattle.std.proofs.Common.{◌≡◌, ◌+◌, refl, sym, ap, ◌∙◌, arith}
use Rattle.jh_txn.specs.declared.dependency.Why.TheVariants.{RealTime}
use Rattle.jh_txn_edges.specs.Inside.{IsThis}
use Rattle.jh_txn_edges.proofs.StepLemmas.{StepsBelow, adds_if, adds_more}
use Rattle.jh_txn_points.specs.PointSteps.{IsCommitStep}
use Rattle.jh_txn_points.proofs.steps.add_commit_steps.Goals as goal

pub loop-place-preserved : goal.loop-place-preserved
loop-place-preserved c =
    adds_more (λ k. IsThis (record { place = k; why = RealTime }) (c.args.count + k)) c.loop-place.place c.args.graph.now c.loop-place.graph c.add.new.graph c.loop-place.invariant c.in_ok-add.ensures

pub returns : goal.returns
returns c =
    let count = c.args.count in
    let place = c.loop-place.place in
    let all : place ≡ count = omega arith in
    adds_if (StepsBelow (λ k. IsThis (record { place = k; why = RealTime }) (count + k)) place) (IsCommitStep count) c.args.graph.now c.loop-place.graph
    (λ p w t h. (omega (arith, h.1, h.2.0, all), h.2.1, h.2.2 ∙ ap (λ k. count + k) (sym h.2.0)))
    (λ p w t h. (p, omega (arith, h.0, all), (refl, h.1, h.2))) c.loop-place.invariant
