use Rattle.std.proofs.Common.{subst, arith, inl, inr}
use Rattle.std.proofs.lemmas.Bool.{cases_lt}
use Rattle.jh_txn_seen.specs.Reads.{longest_of}
use Rattle.jh_txn_edges.specs.Steps.{IsAlong, IsAlongStep}
use Rattle.jh_txn_edges.specs.Inside.{AddsSteps}
use Rattle.jh_txn_seen.proofs.ReadLemmas.{longest_past}
use Rattle.jh_txn_edges.proofs.StepLemmas.{StepsBelow, adds_if, adds_more, no_neighbours}
use Rattle.jh_txn_edges.proofs.writers.add_along_all.Goals as goal
use Rattle.jh_txn_writers.specs.Writers.{AreNeighbours}

pub add_along-requires : goal.add_along-requires
add_along-requires c = λ element writer is. omega (arith, c.requires element writer is, c.loop-key.auto.graph)

pub loop-key-preserved : goal.loop-key-preserved
loop-key-preserved c =
    let writers = c.args.writers.now in
    let longest = c.args.longest.now in
    adds_more (λ k. IsAlong writers k (longest_of longest k)) c.loop-key.key c.args.graph.now c.loop-key.graph c.add_along.new.graph c.loop-key.invariant
    (subst (λ xs. AddsSteps (IsAlong writers c.loop-key.key xs) c.loop-key.graph c.add_along.new.graph) c.longest_at.ensures c.in_ok-add_along.ensures)

pub returns : goal.returns
returns c =
    let writers = c.args.writers.now in
    let longest = c.args.longest.now in
    let key = c.loop-key.key in
    adds_if (StepsBelow (λ k. IsAlong writers k (longest_of longest k)) key) (IsAlongStep writers longest) c.args.graph.now c.loop-key.graph
    (λ p w t h. (h.0, h.2))
    (λ p w t h. elim (cases_lt h.0 key) as (λ _. StepsBelow (λ k. IsAlong writers k (longest_of longest k)) key p w t) [
      | inl lt ↦ (h.0, lt, h.1)
      | inr ge ↦ absurd (no_neighbours h.1.0 h.1.1 (subst (λ xs. AreNeighbours xs h.1.0 h.1.1) (longest_past longest h.0 (omega (arith, ge, c.loop-key-test.false))) h.1.2))
    ])
    c.loop-key.invariant
