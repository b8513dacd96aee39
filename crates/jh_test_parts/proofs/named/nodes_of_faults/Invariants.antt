use Rattle.std.proofs.Common.{◌≡◌, take}
use Rattle.std.specs.List.{flat_map}
use Rattle.jh_test_parts.specs.ChangesInside.{nodes_of_fault}
use Rattle.jh_test_parts.proofs.named.nodes_of_faults.Given as goal

abbrev pub invariant-loop-fault : goal.invariant-loop-fault
invariant-loop-fault l = l.nodes.items ≡ flat_map (λ f. nodes_of_fault f.now) (take l.fault-index l.faults)
