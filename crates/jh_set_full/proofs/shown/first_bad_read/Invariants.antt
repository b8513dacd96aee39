use Rattle.std.proofs.Common.{◌≡◌, take, map}
use Rattle.std.specs.List.{filter}
use Rattle.jh_ops.specs.Operation.{operations}
use Rattle.jh_check.specs.CounterResults.{end_place}
use Rattle.jh_set_full.specs.SetFull.{shows_no_elements, least}
use Rattle.jh_set_full.proofs.shown.first_bad_read.Given as goal

abbrev pub invariant-loop-pair : goal.invariant-loop-pair
invariant-loop-pair l = l.first ≡ least (map end_place (filter (shows_no_elements (operations l.history)) (take l.pair-index l.pairs)))
