use Rattle.std.proofs.Common.{◌≡◌, take}
use Rattle.std.specs.List.{flat_map}
use Rattle.jh_test_parts.specs.ChangesInside.{links_of_fault}
use Rattle.jh_test_parts.proofs.named.links_of_faults.Given as goal

abbrev pub invariant-loop-fault : goal.invariant-loop-fault
invariant-loop-fault l = l.links.items ≡ flat_map (λ f. links_of_fault f.now) (take l.fault-index l.faults)
