use Rattle.std.proofs.Common.{◌≡◌, length, get_or, sym, subst, arith}
use Rattle.jh_txn.proofs.ListLemmas.{place_included, place_of}
use Rattle.jh_txn_edges.specs.Graph.{IsAnyShownStep}
use Rattle.jh_txn_edges.specs.Steps.{IsShownStep}
use Rattle.jh_txn_edges.proofs.StepLemmas.{StepsBelow, adds_if, adds_more, adds_none_below}
use Rattle.jh_txn_edges.proofs.fork.add_shown.Goals as goal

pub loop-element-init : goal.loop-element-init
loop-element-init c = adds_none_below (λ k. IsShownStep c.args.writers.now c.args.read.now (get_or c.args.read.now.seen.now k 0)) c.args.graph.now

pub loop-element-preserved : goal.loop-element-preserved
loop-element-preserved c = adds_more (λ k. IsShownStep c.args.writers.now c.args.read.now (get_or c.args.read.now.seen.now k 0)) c.loop-element.element-index c.args.graph.now c.loop-element.graph c.add_shown_step.new.graph c.loop-element.invariant c.in_ok-add_shown_step.ensures

pub returns : goal.returns
returns c =
    let read = c.args.read.now in
    let seen = read.seen.now in
    let i = c.loop-element.element-index in
    let all : i ≡ length seen = omega arith in
    adds_if (StepsBelow (λ k. IsShownStep c.args.writers.now read (get_or seen k 0)) i) (IsAnyShownStep c.args.writers.now read) c.args.graph.now c.loop-element.graph
    (λ p w t h. (get_or seen h.0 0, place_included seen h.0 (omega (arith, h.1, all)), h.2))
    (λ p w t h. let at = place_of seen h.0 h.1 in (at.0, omega (arith, at.1, all), subst (λ e. IsShownStep c.args.writers.now read e p w t) (sym at.2) h.2))
    c.loop-element.invariant
