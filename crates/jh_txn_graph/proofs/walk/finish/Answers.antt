use Rattle.std.proofs.Common.{◌<◌, ◌≤◌, ◌+◌, length, subst, sym, ap, ◌∙◌, arith}
use Rattle.std.proofs.lemmas.Bool.{false≢true}
use Rattle.jh_txn_graph.specs.WalkInside.{HaveFewer, turns_at, step_count}
use Rattle.jh_txn_graph.proofs.WalkLemmas.{walk_entered, same_walk, new_if, fewer_all, fewer_same, some_left}
use Rattle.jh_txn_graph.proofs.walk.finish.Goals as goal

pub loop-walk-init : goal.loop-walk-init
loop-walk-init c =
    let graph = c.args.graph.now in
    let old = c.args.walk.now in
    let node = c.args.node in
    let low : node < length old.left.items = omega (arith, c.requires.node, c.requires.walk.count) in
    let some : 0 < turns_at old.left.items node = some_left (turns_at old.left.items node) (λ none. false≢true (sym c.if-is_done.false ∙ c.is_done.ensures.1 none)) in
    let new = new_if graph old.left.items old.path.items old.done.items c.requires.walk node c.requires.node c.requires.path some in
    let e = c.in_ok-enter.ensures in
    record {
      is_walk = same_walk graph _ _ _ c.enter.new.walk.left.items c.enter.new.walk.path.items c.enter.new.walk.done.items e.left e.path e.done
          (walk_entered graph old.left.items old.path.items old.done.items c.requires.walk node c.requires.node new (λ some_path. absurd (omega (arith, some_path, ap length c.requires.path))));
      fewer = subst (λ xs. HaveFewer old.left.items xs) (sym e.left) (fewer_all old.left.items node low);
      begun = subst (λ xs. turns_at xs node ≤ step_count graph node + 1) (sym e.left) (omega (arith, fewer_same old.left.items node low, new));
    }
