use Rattle.std.proofs.Common.{◌≡◌, map, take}
use Rattle.jh_edn.specs.View.{views}
use Rattle.jh_test_parts.specs.Records.{changed_node_value}
use Rattle.jh_test_parts.proofs.operations.node_values.Given as goal

abbrev pub invariant-loop-changed : goal.invariant-loop-changed
invariant-loop-changed l = views l.values.items ≡ map (changed_node_value l.nodes) (take l.changed-index l.changed-items)
