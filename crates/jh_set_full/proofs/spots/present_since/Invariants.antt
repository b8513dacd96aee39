use Rattle.std.proofs.Common.{◌≡◌, take, map}
use Rattle.std.specs.List.{filter}
use Rattle.jh_set_full.specs.SetFull.{greatest_of, invoke_place, is_later}
use Rattle.jh_set_full.specs.Inside.{sighted_pairs}
use Rattle.jh_set_full.proofs.spots.present_since.Given as goal

abbrev pub invariant-loop-sighting : goal.invariant-loop-sighting
invariant-loop-sighting l = l.present ≡ greatest_of (map invoke_place (filter (is_later l.place) (sighted_pairs (take l.sighting-index l.shown))))
