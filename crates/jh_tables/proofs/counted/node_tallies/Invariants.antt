use Rattle.std.proofs.Common.{◌≡◌, map, take}
use Rattle.jh_tables.specs.Tallies.{fresh_node}
use Rattle.jh_tables.proofs.counted.node_tallies.Given as goal

abbrev pub invariant-loop-node : goal.invariant-loop-node
invariant-loop-node l = l.tallies.items ≡ map fresh_node (take l.node-index l.nodes)
