use Rattle.std.proofs.Common.{◌≡◌, ◌<◌, ◌+◌, sum, refl, subst, sym, ap, ◌∙◌, arith, length}
use Rattle.jh_txn_graph.specs.WalkInside.{IsCurrent, one_fewer, top, turns_at, step_count}
use Rattle.jh_txn_graph.proofs.WalkLemmas.{top_has, walk_left, walk_passed, walk_entered, same_walk, sum_fewer}
use Rattle.jh_txn_graph.proofs.walk.turn.Goals as goal

pub current-requires-clause-node : goal.current-requires-clause-node
current-requires-clause-node c =
    let is : c.last-node.result ≡ top c.args.walk.now.path.items = c.last-node.ensures ∙ ap top c.deref.ensures.value in
    subst (λ z. z < length c.args.graph.now) (sym is) (c.requires.walk.on_path (top c.args.walk.now.path.items) (top_has c.args.walk.now.path.items c.requires.path)).0

pub state_of-requires-clause-node : goal.state_of-requires-clause-node
state_of-requires-clause-node c = c.requires.closed c.in-Some.step c.last-node.result (c.in-Some.ensures.0, c.in-Some.ensures.2)

pub returns-in_ok-leave-in-None-clause-walk : goal.returns-in_ok-leave-in-None-clause-walk
returns-in_ok-leave-in-None-clause-walk c =
    let graph = c.args.graph.now in
    let old = c.args.walk.now in
    let node = top old.path.items in
    let is : c.last-node.result ≡ node = c.last-node.ensures ∙ ap top c.deref.ensures.value in
    let over : turns_at old.left.items node ≡ 1 = subst (λ z. turns_at old.left.items z ≡ 1) is (subst (λ xs. turns_at xs c.last-node.result ≡ 1) c.deref-2.ensures.value c.in-None.ensures) in
    let e = c.in_ok-leave-in-None.ensures in
    same_walk graph _ c.leave.new.walk.path.items _ c.leave.new.walk.left.items c.leave.new.walk.path.items c.leave.new.walk.done.items e.left refl e.done
    (walk_left graph old.left.items old.path.items old.done.items c.requires.walk node c.leave.new.walk.path.items e.path over)

pub returns-in-Done-clause-walk : goal.returns-in-Done-clause-walk
returns-in-Done-clause-walk c =
    let graph = c.args.graph.now in
    let old = c.args.walk.now in
    let node = top old.path.items in
    let is : c.last-node.result ≡ node = c.last-node.ensures ∙ ap top c.deref.ensures.value in
    let current : IsCurrent graph old.left.items node c.in-Some.step = subst (λ z. IsCurrent graph old.left.items z c.in-Some.step) is (subst (λ xs. IsCurrent graph xs c.last-node.result c.in-Some.step) c.deref-2.ensures.value c.in-Some.ensures) in
    let low = c.requires.closed c.in-Some.step node (current.0, current.2) in
    let finished = c.requires.walk.is_done c.in-Some.step.place low (subst (λ xs. turns_at xs c.in-Some.step.place ≡ 0) c.deref-in-Some.ensures.value c.in-Done.ensures) in
    same_walk graph _ _ _ c.pass.new.walk.left.items c.pass.new.walk.path.items c.pass.new.walk.done.items (c.pass.ensures.left ∙ ap (one_fewer old.left.items) is) c.pass.ensures.path c.pass.ensures.done
    (walk_passed graph old.left.items old.path.items old.done.items c.requires.walk c.requires.path current.0 c.in-Some.step current.1 current.2 finished)

pub returns-in-Done-clause-met : goal.returns-in-Done-clause-met
returns-in-Done-clause-met c =
    let old = c.args.walk.now in
    let node = top old.path.items in
    let is : c.last-node.result ≡ node = c.last-node.ensures ∙ ap top c.deref.ensures.value in
    let open' = c.requires.walk.on_path node (top_has old.path.items c.requires.path) in
    subst (λ xs. sum xs < sum old.left.items) (sym (c.pass.ensures.left ∙ ap (one_fewer old.left.items) is)) (sum_fewer old.left.items node (omega (arith, open'.0, c.requires.walk.count)) open'.1)

pub returns-in_ok-enter-in-New-clause-walk : goal.returns-in_ok-enter-in-New-clause-walk
returns-in_ok-enter-in-New-clause-walk c =
    let graph = c.args.graph.now in
    let old = c.args.walk.now in
    let node = top old.path.items in
    let is : c.last-node.result ≡ node = c.last-node.ensures ∙ ap top c.deref.ensures.value in
    let current : IsCurrent graph old.left.items node c.in-Some.step = subst (λ z. IsCurrent graph old.left.items z c.in-Some.step) is (subst (λ xs. IsCurrent graph xs c.last-node.result c.in-Some.step) c.deref-2.ensures.value c.in-Some.ensures) in
    let place = c.in-Some.step.place in
    let low = c.requires.closed c.in-Some.step node (current.0, current.2) in
    let new : turns_at old.left.items place ≡ step_count graph place + 2 = subst (λ xs. turns_at xs place ≡ step_count graph place + 2) c.deref-in-Some.ensures.value c.in-New.ensures in
    let e = c.in_ok-enter-in-New.ensures in
    same_walk graph _ _ _ c.enter.new.walk.left.items c.enter.new.walk.path.items c.enter.new.walk.done.items e.left e.path e.done
    (walk_entered graph old.left.items old.path.items old.done.items c.requires.walk place low new (λ _. (c.in-Some.step, current, refl)))
