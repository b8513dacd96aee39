use Rattle.std.proofs.Common.{◌≡◌, length, arith, refl, []}
use Rattle.jh_txn_graph.proofs.WalkLemmas.{walk_begun, same_walk}
use Rattle.jh_txn_graph.proofs.walk.begin.Goals as goal

pub returns-clause-walk : goal.returns-clause-walk
returns-clause-walk c =
    let graph = c.args.graph.now in
    let left = c.loop-row.left.items in
    let whole : length left ≡ length graph = omega arith in
    same_walk graph left [] [] left c.new.result.items c.new-2.result.items refl c.new.ensures.items c.new-2.ensures.items
    (walk_begun graph left whole (λ k low. c.loop-row.invariant.new k (omega (arith, low, c.loop-row-test.false))))
