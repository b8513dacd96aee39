use Rattle.std.proofs.Common.{◌≡◌, drop, take}
use Rattle.jh_random_faults.specs.RandomFaults.{links_between}
use Rattle.jh_random_faults.proofs.random_faults.links_apart.Given as goal

abbrev pub invariant-loop-node : goal.invariant-loop-node
invariant-loop-node l = l.links.items ≡ links_between (take l.node-index (take l.first l.order)) (drop l.first l.order)
