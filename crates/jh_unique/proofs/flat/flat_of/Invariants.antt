use Rattle.std.proofs.Common.{◌≡◌, take}
use Rattle.std.specs.List.{flat_map}
use Rattle.jh_unique.specs.Lists.{members_in}
use Rattle.jh_unique.proofs.flat.flat_of.Given as goal

abbrev pub invariant-loop-cluster : goal.invariant-loop-cluster
invariant-loop-cluster l = l.flat.items ≡ flat_map (members_in l.lists) (take l.cluster-index l.clusters)
