use Rattle.jh_search.specs.SearchInside.{HasTried}
use Rattle.jh_search.proofs.serial.search_serial.Given as goal

abbrev pub invariant-loop-index : goal.invariant-loop-index
invariant-loop-index l = HasTried l.plan l.options l.index l.unknown
