use Rattle.std.proofs.Common.{◌≡◌, take, map}
use Rattle.jh_edn.specs.View.{views}
use Rattle.jh_ops.specs.Operation.{operations}
use Rattle.jh_set_full.specs.Inside.{stale_by}
use Rattle.jh_set_full.specs.StaleView.{view_stales}
use Rattle.jh_set_full.proofs.set_full.with_staleness.Given as goal

abbrev pub invariant-loop-element : goal.invariant-loop-element
invariant-loop-element l = view_stales l.found.items ≡ map (stale_by (operations l.history) l.tables.pairs.items) (views (take l.element-index l.elements))
