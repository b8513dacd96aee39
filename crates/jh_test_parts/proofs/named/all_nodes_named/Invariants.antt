use Rattle.std.proofs.Common.{◌≡◌, take}
use Rattle.std.specs.Prelude.{filter_map}
use Rattle.jh_test_parts.specs.NamedCells.{placed_node}
use Rattle.jh_test_parts.proofs.named.all_nodes_named.Given as goal

abbrev pub invariant-loop-node : goal.invariant-loop-node
invariant-loop-node l = l.nodes.items ≡ filter_map (placed_node l.env) (take l.node-index l.node-items)
