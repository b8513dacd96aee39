use Rattle.std.proofs.Common.{◌≡◌, take}
use Rattle.std.specs.List.{filter}
use Rattle.jh_edn.specs.View.{views}
use Rattle.jh_ops.specs.Operation.{operations}
use Rattle.jh_set_full.specs.Inside.{is_spot_in, spot_of}
use Rattle.jh_set_full.proofs.set_full.elements_in.Given as goal

abbrev pub invariant-loop-element : goal.invariant-loop-element
invariant-loop-element l = views l.found.items ≡ filter (λ x. is_spot_in l.state (spot_of (operations l.history) l.tables.pairs.items x)) (views (take l.element-index l.elements))
