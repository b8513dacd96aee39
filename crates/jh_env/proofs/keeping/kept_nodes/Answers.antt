use Rattle.std.proofs.Common.{◌≡◌, ◌<◌, Some, length, sym, ◌∙◌}
use Rattle.jh_env.specs.Faults.{is_same_node}
use Rattle.jh_env.proofs.FaultLemmas.{kept_all_one}
use Rattle.jh_env.proofs.BumpLemmas.{kept_next, kept_skip}
use Rattle.jh_env.proofs.keeping.kept_nodes.Goals as goal
use Rattle.jh_env.proofs.keeping.kept_nodes.Goals.{in-Some+in_ok-keep, in_default}

pub loop-node-preserved : goal.loop-node-preserved
loop-node-preserved g c =
    let f = g.N.NamesNode.named c.args.nodes.now in
    let xs = c.args.named.now in let i = c.loop-node.node-index in let x = c.node-item.result in
    let before = c.loop-node.invariant in
    elim c.match-node.branch [
      | in-Some+in_ok-keep w ↦
          let y = w.in-Some.node in
          let there : f x ≡ Some y = sym c.node.ensures.node ∙ w.in-Some.is in
          rw (w.seen-is, w.kept-is) (
            w.in_ok-keep.ensures.0,
            kept_next is_same_node f xs i x y c.loop-node.kept.items w.keep.new.kept.items _ c.loop-node-test.true c.node-item.is there w.in_ok-keep.ensures.1 before.1,
            kept_all_one (λ n. n < length c.args.nodes.now) is_same_node c.loop-node.kept.items y w.keep.new.kept.items before.2 w.in-Some.ensures.known w.in_ok-keep.ensures.1,
          )
      | in_default w ↦
          rw (w.seen-is, w.kept-is)
          (before.0, kept_skip is_same_node f xs i x c.loop-node.kept.items _ c.loop-node-test.true c.node-item.is (sym c.node.ensures.node ∙ w.in_default.is) before.1, before.2)
    ]
