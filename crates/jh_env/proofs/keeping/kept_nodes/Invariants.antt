use Rattle.std.proofs.Common.{◌≡◌, ◌<◌, [], drop, length}
use Rattle.std.specs.List.{All, filter_map}
use Rattle.jh_env.specs.Faults.{kept_list, is_same_node}
use Rattle.jh_env.proofs.keeping.kept_nodes.Given as goal

abbrev pub invariant-loop-node : goal.invariant-loop-node
invariant-loop-node g l =
    (l.seen.keys ≡ l.kept.items)
    × (kept_list is_same_node l.kept.items (filter_map (g.N.NamesNode.named l.nodes) (drop l.node-index l.named))
    ≡ kept_list is_same_node [] (filter_map (g.N.NamesNode.named l.nodes) l.named))
    × All (λ n. n < length l.nodes) l.kept.items
