use Rattle.std.proofs.Common.{rules, subst}
use Rattle.jh_txn_graph.specs.WalkInside.{IsLoop}
use Rattle.jh_txn_graph.proofs.loops.cycle_in.Goals as goal

pub returns-in_ok-cycle_of : goal.returns-in_ok-cycle_of
returns-in_ok-cycle_of c =
    let graph = c.args.graph.now in
    c.in_ok-cycle_of.ensures graph (subst (IsLoop graph) c.deref.ensures.value (c.is_loop.ensures (search rules)))
