use Rattle.std.proofs.Common.{◌∙◌, ap, map}
use Rattle.std.specs.Prelude.{filter_map}
use Rattle.std.proofs.lemmas.List.{take_all}
use Rattle.jh_test_parts.specs.NamedCells.{placed_node}
use Rattle.jh_test_parts.proofs.NamedLemmas.{nodes_are}
use Rattle.jh_test_parts.proofs.ChangeLemmas.{found_more}
use Rattle.jh_test_parts.proofs.named.all_nodes_named.Goals as goal

pub loop-node-preserved : goal.loop-node-preserved
loop-node-preserved c =
    found_more (placed_node c.args.env.now) c.as_slice-node-items.result.now c.loop-node.node-index c.node-item.result c.loop-node.nodes.items c.push_some.new.items.items c.placed_node.result
    c.loop-node-test.true c.node-item.is c.placed_node.ensures c.loop-node.invariant c.in_ok-push_some.ensures

pub returns : goal.returns
returns c =
    c.loop-node.invariant
    ∙ ap (filter_map (placed_node c.args.env.now)) (take_all c.loop-node.node-index c.as_slice-node-items.result.now c.loop-node-test.false ∙ c.as_slice-node-items.ensures.value)
    ∙ nodes_are c.args.env.now (map (λ f. f.now) c.args.faults.now) c.in_ok-named.named.items c.in_ok-named.ensures
