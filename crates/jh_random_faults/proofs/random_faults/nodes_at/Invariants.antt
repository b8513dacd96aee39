use Rattle.std.proofs.Common.{◌≡◌, take}
use Rattle.jh_random_faults.proofs.random_faults.nodes_at.Given as goal

abbrev pub invariant-loop-place : goal.invariant-loop-place
invariant-loop-place l = l.nodes.items ≡ take l.place-index l.places
