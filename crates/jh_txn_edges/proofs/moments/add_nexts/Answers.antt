use Rattle.std.proofs.Common.{◌+◌, ◌-◌, arith}
use Rattle.jh_txn.specs.declared.dependency.Why.TheVariants.{RealTime}
use Rattle.jh_txn_edges.specs.Inside.{IsThis}
use Rattle.jh_txn_edges.proofs.MomentLemmas.{NextAt, nexts_if}
use Rattle.jh_txn_edges.proofs.StepLemmas.{StepsBelow, adds_if, adds_more, adds_none}
use Rattle.jh_txn_edges.proofs.moments.add_nexts.Goals as goal

pub loop-point-init : goal.loop-point-init
loop-point-init c = record {
  steps = adds_none (StepsBelow (NextAt c.args.first) 1) c.args.graph.now (λ p w t h. omega (arith, h.1, h.2.0));
  bound = λ more. absurd (omega (arith, more));
}

pub loop-point-preserved : goal.loop-point-preserved
loop-point-preserved c =
    let first = c.args.first in
    let point = c.loop-point.point in
    record {
      steps = adds_more (NextAt first) point c.args.graph.now c.loop-point.graph c.add.new.graph c.loop-point.invariant.steps
          (adds_if (IsThis (record { place = first + (point - 1); why = RealTime }) (first + point)) (NextAt first point) c.loop-point.graph c.add.new.graph (λ p w t h. (c.loop-point.auto.point, h.0, h.1, h.2)) (λ p w t h. (h.1, h.2, h.3)) c.in_ok-add.ensures);
      bound = λ more. omega arith;
    }

pub returns : goal.returns
returns c = nexts_if c.args.moments.now c.args.first c.loop-point.point c.args.graph.now c.loop-point.graph c.loop-point.invariant.bound c.loop-point-test.false c.loop-point.invariant.steps
