use Rattle.std.proofs.Common.{◌≡◌, take}
use Rattle.jh_edn.specs.View.{views}
use Rattle.jh_check.specs.Tallies.{view_tally}
use Rattle.jh_set_full.specs.Inside.{most_by, repeated_by}
use Rattle.jh_set_full.proofs.set_full.repeated.Given as goal

abbrev pub invariant-loop-element : goal.invariant-loop-element
invariant-loop-element l = view_tally l.found.items ≡ repeated_by (most_by l.tables) (views (take l.element-index l.elements))
