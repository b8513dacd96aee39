use Rattle.std.proofs.Common.{◌≡◌, take, map}
use Rattle.jh_set_full.specs.SetFull.{greatest_of}
use Rattle.jh_set_full.proofs.spots.most_times.Given as goal

abbrev pub invariant-loop-sighting : goal.invariant-loop-sighting
invariant-loop-sighting l = l.most ≡ greatest_of (map (λ s. s.times) (take l.sighting-index l.shown))
