use Rattle.std.proofs.Common.{sym, subst, ◌∙◌, arith}
use Rattle.std.proofs.lemmas.Bool.{false≢true}
use Rattle.jh_txn.specs.RealTime.{invoked_at}
use Rattle.jh_txn_edges.specs.Moments.{IsPointOf}
use Rattle.jh_txn_edges.proofs.MomentLemmas.{invocation_added, invocation_none, invoked_is}
use Rattle.jh_txn_edges.proofs.StepLemmas.{on_ok_then}
use Rattle.jh_txn_edges.proofs.moments.add_invocation.Goals as goal
use Rattle.jh_txn_edges.proofs.moments.add_invocation.Goals.{else-is_marked-via-then-is_marked+else-point-gt0, else-is_marked-via-else-is_marked}

pub returns-then-point-gt0 : goal.returns-then-point-gt0
returns-then-point-gt0 c =
    let txns = c.args.txns.now in
    let node = c.args.node in
    let pointed : IsPointOf c.args.moments.now (invoked_at txns node) c.point_of-point.result = subst (λ n. IsPointOf c.args.moments.now n c.point_of-point.result) (invoked_is txns node c.index-txns-node.result c.requires.node) c.point_of-point.ensures in
    on_ok_then c.add.result _ _ (invocation_added txns c.args.moments.now c.args.first c.args.graph.now c.add.new.graph c.args.there.now node c.point_of-point.result (sym c.if-is_marked.ensures) pointed c.if-point-gt0.true) c.add.ensures

pub returns-else-is_marked : goal.returns-else-is_marked
returns-else-is_marked c =
    let txns = c.args.txns.now in
    let node = c.args.node in
    let point = c.point_of-point.result in
    let pointed : IsPointOf c.args.moments.now (invoked_at txns node) point = subst (λ n. IsPointOf c.args.moments.now n point) (invoked_is txns node c.index-txns-node.result c.requires.node) c.point_of-point.ensures in
    invocation_none txns c.args.moments.now c.args.first c.args.graph.now c.args.graph.now c.args.there.now node point pointed (λ marked some. elim c.else-is_marked.branch [
      | else-is_marked-via-then-is_marked+else-point-gt0 w ↦ omega (arith, some, w.if-point-gt0.false)
      | else-is_marked-via-else-is_marked w ↦ false≢true (sym w.if-is_marked.false ∙ c.is_marked.ensures ∙ marked)
    ])
