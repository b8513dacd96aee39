use Rattle.std.proofs.Common.{inl, inr, None, sym, ◌∙◌, arith}
use Rattle.std.proofs.lemmas.Bool.{cases_lt}
use Rattle.std.proofs.lemmas.List.{get_or_past}
use Rattle.std.proofs.lemmas.Option.{none-some}
use Rattle.jh_txn_edges.specs.Graph.{IsAnyLackedStep, IsLackedThere}
use Rattle.jh_txn_edges.proofs.StepLemmas.{StepsBelow, adds_if, adds_more, adds_none_below}
use Rattle.jh_txn_seen.proofs.PlaceLemmas.{place_writer}
use Rattle.jh_txn_edges.proofs.fork.add_lacked.Goals as goal

pub add_lacked_if-requires-clause-writers : goal.add_lacked_if-requires-clause-writers
add_lacked_if-requires-clause-writers c = λ element writer is. omega (arith, c.requires.writers element writer is, c.loop-element.auto.graph)

pub loop-element-init : goal.loop-element-init
loop-element-init c = adds_none_below (IsLackedThere c.args.writers.now c.args.there.now c.args.read.now) c.args.graph.now

pub loop-element-preserved : goal.loop-element-preserved
loop-element-preserved c = adds_more (IsLackedThere c.args.writers.now c.args.there.now c.args.read.now) c.loop-element.element c.args.graph.now c.loop-element.graph c.add_lacked_if.new.graph c.loop-element.invariant c.in_ok-add_lacked_if.ensures

pub returns : goal.returns
returns c =
    let i = c.loop-element.element in
    let writers = c.args.writers.now in
    adds_if (StepsBelow (IsLackedThere writers c.args.there.now c.args.read.now) i) (IsAnyLackedStep writers c.args.there.now c.args.read.now) c.args.graph.now c.loop-element.graph
    (λ p w t h. (h.0, h.2))
    (λ p w t h. elim (cases_lt h.0 i) as (λ _. StepsBelow (IsLackedThere writers c.args.there.now c.args.read.now) i p w t) [
      | inl lt ↦ (h.0, lt, h.1)
      | inr ge ↦
          let found = place_writer writers c.args.read.now.key h.0 t h.1.2.1 in
          absurd (none-some found.0 (sym (get_or_past writers h.0 None (omega (arith, ge, c.loop-element-test.false))) ∙ found.1))
    ]) c.loop-element.invariant
