use Rattle.std.proofs.Common.{inl, inr, None, sym, ◌∙◌, arith}
use Rattle.std.proofs.lemmas.Bool.{cases_lt}
use Rattle.std.proofs.lemmas.List.{get_or_past}
use Rattle.std.proofs.lemmas.Option.{none-some}
use Rattle.jh_txn_edges.proofs.StepLemmas.{StepsBelow, adds_if, adds_more}
use Rattle.jh_txn_points.specs.ForkGraph.{IsWinStep, IsWinStepOf}
use Rattle.jh_txn_seen.proofs.PlaceLemmas.{place_writer}
use Rattle.jh_txn_points.proofs.fork.add_win_steps_of.Goals as goal

pub loop-element-preserved : goal.loop-element-preserved
loop-element-preserved c = adds_more (IsWinStep c.args.count c.args.writers.now c.args.there.now c.args.read.now c.args.own) c.loop-element.element c.args.graph.now c.loop-element.graph c.add_win_step.new.graph c.loop-element.invariant c.in_ok-add_win_step.ensures

pub returns : goal.returns
returns c =
    let i = c.loop-element.element in
    let writers = c.args.writers.now in
    let Win = IsWinStep c.args.count writers c.args.there.now c.args.read.now c.args.own in
    adds_if (StepsBelow Win i) (IsWinStepOf c.args.count writers c.args.there.now c.args.read.now c.args.own) c.args.graph.now c.loop-element.graph
    (λ p w t h. (h.0, h.2))
    (λ p w t h. elim (cases_lt h.0 i) as (λ _. StepsBelow Win i p w t) [
      | inl lt ↦ (h.0, lt, h.1)
      | inr ge ↦
          let found = place_writer writers c.args.read.now.key h.0 t h.1.3 in
          absurd (none-some found.0 (sym (get_or_past writers h.0 None (omega (arith, ge, c.loop-element-test.false))) ∙ found.1))
    ]) c.loop-element.invariant
