use Rattle.std.proofs.Common.{◌<◌, length, get_or, arith}
use Rattle.std.specs.List.{Contains}
use Rattle.std.proofs.lemmas.List.{get_or_default}
use Rattle.jh_txn_edges.specs.Inside.{AddsSteps}
use Rattle.jh_txn_edges.proofs.StepLemmas.{adds_if, adds_more}
use Rattle.jh_txn_snapshot_judge.specs.TurnsInside.{IsTurnStep}
use Rattle.jh_txn_snapshot_judge.proofs.TurnLemmas.{TurnAt, no_turn, turn_steps}
use Rattle.jh_txn_snapshot_judge.proofs.turns.add_turn_steps.Goals as goal

pub add_turn_step-requires-clause-first : goal.add_turn_step-requires-clause-first
add_turn_step-requires-clause-first c =
    let turns = c.args.turns.now in
    let i = c.loop-turn.turn-index in
    let turn = get_or turns i no_turn in
    let low : i < length turns = omega arith in
    let has : Contains turns turn = (i, low, get_or_default turns i turn no_turn low) in
    omega (arith, (c.requires turn has).0, c.loop-turn.invariant.count)

pub add_turn_step-requires-clause-second : goal.add_turn_step-requires-clause-second
add_turn_step-requires-clause-second c =
    let turns = c.args.turns.now in
    let i = c.loop-turn.turn-index in
    let turn = get_or turns i no_turn in
    let low : i < length turns = omega arith in
    let has : Contains turns turn = (i, low, get_or_default turns i turn no_turn low) in
    omega (arith, (c.requires turn has).1, c.loop-turn.invariant.count)

pub loop-turn-preserved : goal.loop-turn-preserved
loop-turn-preserved c =
    let turns = c.args.turns.now in
    let i = c.loop-turn.turn-index in
    let low : i < length turns = omega arith in
    let old = c.loop-turn.graph in
    let new = c.add_turn_step.new.graph in
    let added : AddsSteps (TurnAt c.args.count turns i) old new =
    adds_if (IsTurnStep c.args.count (get_or turns i no_turn)) (TurnAt c.args.count turns i) old new (λ p w t h. (low, h)) (λ p w t h. h.1) c.in_ok-add_turn_step.ensures in
    adds_more (TurnAt c.args.count turns) i c.args.graph.now old new c.loop-turn.invariant added

pub returns : goal.returns
returns c = turn_steps c.args.count c.args.turns.now c.loop-turn.turn-index c.args.graph.now c.loop-turn.graph c.loop-turn-test.false c.loop-turn.invariant
