use Rattle.std.proofs.Common.{◌<◌, ◌≤◌, length, get_or, subst, arith}
use Rattle.std.specs.Prelude.{◌↔◌}
use Rattle.std.specs.List.{Contains}
use Rattle.std.proofs.lemmas.List.{take_all}
use Rattle.jh_txn_snapshot_judge.specs.TurnsInside.{IsTurn, TakesTurns}
use Rattle.jh_txn_snapshot_judge.specs.declared.turns.Succession.{Succession}
use Rattle.jh_txn_snapshot_judge.proofs.TurnLemmas.{turns_more}
use Rattle.jh_txn_snapshot_judge.proofs.turns.take_all_turns.Goals as goal

pub loop-node-preserved : goal.loop-node-preserved
loop-node-preserved c =
    let txns = c.args.txns.now in
    let untold = c.args.untold.now in
    let order = c.args.order.now in
    let i = c.loop-node.node-index in
    let low : i < length order = omega arith in
    let last = c.loop-node.last in
    let now = c.take_turns.new.last in
    let old = c.loop-node.turns.items in
    let new = c.take_turns.new.turns.items in
    turns_more txns untold order i low last now old new c.loop-node.invariant (subst (λ ops. TakesTurns untold (get_or order i 0) ops last now old new) c.ops_of.ensures c.in_ok-take_turns.ensures)

pub returns : goal.returns
returns c =
    let order = c.args.order.now in
    let all : length order ≤ c.loop-node.node-index = omega arith in
    subst (λ nodes. (turn : Succession) → Contains c.loop-node.turns.items turn ↔ IsTurn c.args.txns.now c.args.untold.now nodes turn) (take_all c.loop-node.node-index order all) c.loop-node.invariant.these
