use Rattle.std.proofs.Common.{◌≡◌, ◌++◌, take}
use Rattle.jh_random_faults.specs.RandomFaults.{links_both_ways}
use Rattle.jh_random_faults.proofs.random_faults.push_both_ways.Given as goal

abbrev pub invariant-loop-other : goal.invariant-loop-other
invariant-loop-other l = l.links.items ≡ l.fn.links.items ++ links_both_ways l.node (take l.other-index l.others)
