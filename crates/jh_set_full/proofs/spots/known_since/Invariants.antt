use Rattle.std.proofs.Common.{◌≡◌, take, map}
use Rattle.std.specs.List.{filter, cons_option}
use Rattle.jh_ops.specs.Operation.{operations}
use Rattle.jh_check.specs.CounterResults.{end_place}
use Rattle.jh_set_full.specs.SetFull.{is_later, least, ok_end}
use Rattle.jh_set_full.specs.Inside.{sighted_pairs}
use Rattle.jh_set_full.proofs.spots.known_since.Given as goal

abbrev pub invariant-loop-sighting : goal.invariant-loop-sighting
invariant-loop-sighting l = l.known ≡ least (cons_option (ok_end (operations l.history) l.add) (map end_place (filter (is_later l.add.invoke) (sighted_pairs (take l.sighting-index l.shown)))))
