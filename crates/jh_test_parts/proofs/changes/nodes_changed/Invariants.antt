use Rattle.std.proofs.Common.{◌≡◌, take}
use Rattle.std.specs.Prelude.{filter_map}
use Rattle.jh_test_parts.specs.ChangesInside.{node_if_changed}
use Rattle.jh_test_parts.proofs.changes.nodes_changed.Given as goal

abbrev pub invariant-loop-node : goal.invariant-loop-node
invariant-loop-node l = l.changed.items ≡ filter_map (node_if_changed l.after) (take l.node-index l.nodes)
