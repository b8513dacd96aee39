use Rattle.std.proofs.Common.{◌-◌, get_or, arith}
use Rattle.jh_txn_edges.specs.Steps.{IsAlong, IsPairStep}
use Rattle.jh_txn_edges.proofs.StepLemmas.{PairAt, StepsBelow, adds_if, adds_more, adds_none, along_if, if_along}
use Rattle.jh_txn_edges.proofs.writers.add_along.Goals as goal

pub add_pair-requires : goal.add_pair-requires
add_pair-requires c = λ element writer is. omega (arith, c.requires element writer is, c.loop-next.auto.graph)

pub loop-next-init : goal.loop-next-init
loop-next-init c = record {
  steps = adds_none (StepsBelow (PairAt c.args.writers.now c.args.key c.args.seen.now) 1) c.args.graph.now (λ p w t h. omega (arith, h.1, h.2.0));
  bound = λ more. absurd (omega (arith, more));
}

pub loop-next-preserved : goal.loop-next-preserved
loop-next-preserved c =
    let seen = c.args.seen.now in
    let next = c.loop-next.next in
    record {
      steps = adds_more (PairAt c.args.writers.now c.args.key seen) next c.args.graph.now c.loop-next.graph c.add_pair.new.graph c.loop-next.invariant.steps
          (adds_if (IsPairStep c.args.writers.now c.args.key (get_or seen (next - 1) 0) (get_or seen next 0)) (PairAt c.args.writers.now c.args.key seen next) c.loop-next.graph c.add_pair.new.graph (λ p w t h. (c.loop-next.auto.next, h)) (λ p w t h. h.1) c.in_ok-add_pair.ensures);
      bound = λ more. omega arith;
    }

pub returns : goal.returns
returns c =
    let seen = c.args.seen.now in
    let next = c.loop-next.next in
    adds_if (StepsBelow (PairAt c.args.writers.now c.args.key seen) next) (IsAlong c.args.writers.now c.args.key seen) c.args.graph.now c.loop-next.graph
    (along_if c.args.writers.now c.args.key seen next c.loop-next.invariant.bound)
    (if_along c.args.writers.now c.args.key seen next c.loop-next-test.false) c.loop-next.invariant.steps
