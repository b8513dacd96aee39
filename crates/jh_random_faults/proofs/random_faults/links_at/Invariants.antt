use Rattle.std.proofs.Common.{◌≡◌, take}
use Rattle.jh_random_faults.proofs.random_faults.links_at.Given as goal

abbrev pub invariant-loop-source : goal.invariant-loop-source
invariant-loop-source l = l.links.items ≡ take l.source-index l.ends
