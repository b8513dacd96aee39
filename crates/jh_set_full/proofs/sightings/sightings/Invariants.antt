use Rattle.std.proofs.Common.{◌≡◌, map, take}
use Rattle.jh_ops.specs.Operation.{operations}
use Rattle.jh_set_full.specs.Inside.{seen, sightings_of}
use Rattle.jh_set_full.proofs.sightings.sightings.Given as goal

abbrev pub invariant-loop-pair : goal.invariant-loop-pair
invariant-loop-pair l = map seen l.found.items ≡ sightings_of l.side (operations l.history) (take l.pair-index l.pairs)
