use Rattle.std.proofs.Common.{◌≡◌, ℕ, zero, suc, ◌+◌, ◌<◌, false, length, sym, subst, ◌∙◌, arith, rules}
use Rattle.std.specs.Prelude.{◌==◌, ◌↔◌}
use Rattle.std.specs.List.{Contains}
use Rattle.std.proofs.lemmas.Bool.{eqb-true, false≢true}
use Rattle.jh_txn_graph.specs.Graphs.{KeepsPaths}
use Rattle.jh_txn_snapshot_judge.specs.TurnsInside.{IsAnyTurnStep, IsTurn}
use Rattle.jh_txn_snapshot_judge.specs.declared.turns.Succession.{Succession}
use Rattle.jh_txn_snapshot_judge.proofs.GrownLemmas.{closed_more, keeps_fewer, upwards_more}
use Rattle.jh_txn_snapshot_judge.proofs.TurnLemmas.{empty_turns, keeps_turns, some_turn, step_below, turn_below}
use Rattle.jh_txn_snapshot_judge.proofs.turns.order_in_turn.Goals as goal

pub returns-then-is_empty : goal.returns-then-is_empty
returns-then-is_empty c =
    let txns = c.args.txns.now in
    let untold = c.args.untold.now in
    let turns = c.in_ok-turns.turns.items in
    let order = c.args.order.items in
    let found : (turn : Succession) → Contains turns turn ↔ IsTurn txns untold order turn = subst (λ nodes. (turn : Succession) → Contains turns turn ↔ IsTurn txns untold nodes turn) c.deref.ensures.value c.in_ok-turns.ensures in
    let test : c.is_empty.result ≡ (length turns == 0) = search rules in
    let none : length turns ≡ 0 = eqb-true (length turns) 0 (sym test ∙ c.if-is_empty.true) in
    (c.requires.kept, empty_turns txns untold order turns found order none)

pub add_turn_steps-requires : goal.add_turn_steps-requires
add_turn_steps-requires c = λ turn has.
    let txns = c.args.txns.now in
    let untold = c.args.untold.now in
    let turns = c.in_ok-turns.turns.items in
    let order = c.args.order.items in
    let found : (turn : Succession) → Contains turns turn ↔ IsTurn txns untold order turn = subst (λ nodes. (turn : Succession) → Contains turns turn ↔ IsTurn txns untold nodes turn) c.deref.ensures.value c.in_ok-turns.ensures in
    let below = turn_below txns untold order turns found turn (subst (λ ts. Contains ts turn) c.deref-2.ensures.value has) in
    (omega (arith, below.0, c.requires.nodes), omega (arith, below.1, c.requires.nodes))

pub order_or_cycle-requires-clause-closed : goal.order_or_cycle-requires-clause-closed
order_or_cycle-requires-clause-closed c =
    let txns = c.args.txns.now in
    let untold = c.args.untold.now in
    let turns = c.deref-2.result.now in
    let order = c.args.order.items in
    let listed : (turn : Succession) → Contains c.in_ok-turns.turns.items turn ↔ IsTurn txns untold order turn = subst (λ nodes. (turn : Succession) → Contains c.in_ok-turns.turns.items turn ↔ IsTurn txns untold nodes turn) c.deref.ensures.value c.in_ok-turns.ensures in
    let found : (turn : Succession) → Contains turns turn ↔ IsTurn txns untold order turn = subst (λ ts. (turn : Succession) → Contains ts turn ↔ IsTurn txns untold order turn) (sym c.deref-2.ensures.value) listed in
    closed_more (IsAnyTurnStep (length txns) turns) c.args.graph.now c.add_turn_steps.new.graph c.in_ok-add_turn_steps.ensures c.requires.closed
    (λ place why target h. omega (arith, step_below txns untold order turns found place why target h, c.requires.nodes))

pub order_or_cycle-requires-clause-upwards : goal.order_or_cycle-requires-clause-upwards
order_or_cycle-requires-clause-upwards c =
    let txns = c.args.txns.now in
    let untold = c.args.untold.now in
    let turns = c.deref-2.result.now in
    let order = c.args.order.items in
    let listed : (turn : Succession) → Contains c.in_ok-turns.turns.items turn ↔ IsTurn txns untold order turn = subst (λ nodes. (turn : Succession) → Contains c.in_ok-turns.turns.items turn ↔ IsTurn txns untold nodes turn) c.deref.ensures.value c.in_ok-turns.ensures in
    let found : (turn : Succession) → Contains turns turn ↔ IsTurn txns untold order turn = subst (λ ts. (turn : Succession) → Contains ts turn ↔ IsTurn txns untold order turn) (sym c.deref-2.ensures.value) listed in
    upwards_more (IsAnyTurnStep (length txns) turns) c.args.graph.now c.add_turn_steps.new.graph c.in_ok-add_turn_steps.ensures (length txns + length txns) c.requires.upwards (step_below txns untold order turns found)

pub returns-in-Order : goal.returns-in-Order
returns-in-Order c =
    let txns = c.args.txns.now in
    let n = length txns in
    let untold = c.args.untold.now in
    let turns = c.deref-2.result.now in
    let order = c.args.order.items in
    let new = c.add_turn_steps.new.graph in
    let nodes = c.in-Order.nodes.items in
    let listed : (turn : Succession) → Contains c.in_ok-turns.turns.items turn ↔ IsTurn txns untold order turn = subst (λ nodes. (turn : Succession) → Contains c.in_ok-turns.turns.items turn ↔ IsTurn txns untold nodes turn) c.deref.ensures.value c.in_ok-turns.ensures in
    let found : (turn : Succession) → Contains turns turn ↔ IsTurn txns untold order turn = subst (λ ts. (turn : Succession) → Contains ts turn ↔ IsTurn txns untold order turn) (sym c.deref-2.ensures.value) listed in
    let kept : KeepsPaths new (n + n) nodes = rw c.in-Order.is at c.in_ok-nodes.ensures in
    (keeps_fewer c.args.graph.now new c.in_ok-add_turn_steps.ensures.kept (n + n) nodes kept, keeps_turns txns untold order turns found new nodes c.in_ok-add_turn_steps.ensures.added kept)

pub returns : goal.returns
returns c =
    let txns = c.args.txns.now in
    let untold = c.args.untold.now in
    let turns = c.in_ok-turns.turns.items in
    let order = c.args.order.items in
    let found : (turn : Succession) → Contains turns turn ↔ IsTurn txns untold order turn = subst (λ nodes. (turn : Succession) → Contains turns turn ↔ IsTurn txns untold nodes turn) c.deref.ensures.value c.in_ok-turns.ensures in
    let test : c.is_empty.result ≡ (length turns == 0) = search rules in
    some_turn txns untold order turns found (some_of (length turns) (sym test ∙ c.if-is_empty.false)) where
      some_of : (n : ℕ) → (n == 0) ≡ false → 0 < n
      some_of zero not = absurd (false≢true (sym not))
      some_of (suc n) not = omega arith
