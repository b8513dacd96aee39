use Rattle.std.proofs.Common.{◌≡◌, ◌≤◌, length, map, take}
use Rattle.jh_simnode.specs.Reach.{env_cells, is_node_killed}
use Rattle.jh_simnode.proofs.stores.killed_nodes.Given as goal

abbrev pub invariant-loop-node : goal.invariant-loop-node
invariant-loop-node l = record {
  so_far : l.flags.items ≡ map (λ p. is_node_killed ((env_cells l.env).node p)) (take l.node-index l.node-items);
  few : length l.flags.items ≤ l.node-index;
}
