use Rattle.std.proofs.Common.{◌≡◌, take}
use Rattle.std.specs.List.{filter}
use Rattle.jh_edn.specs.View.{views}
use Rattle.jh_check.specs.Distinct.{has_same_value, is_wanted}
use Rattle.jh_check.proofs.distinct.selected.Given as goal

abbrev pub invariant-loop-value : goal.invariant-loop-value
invariant-loop-value l = views l.kept.items ≡ filter (λ x. is_wanted l.wanted (has_same_value (views l.others) x)) (views (take l.value-index l.values))
