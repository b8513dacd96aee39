use Rattle.std.proofs.Common.{◌≡◌, take}
use Rattle.std.specs.List.{list_any}
use Rattle.jh_edn.specs.Normal.{normal}
use Rattle.jh_edn.specs.View.{views}
use Rattle.jh_check.specs.Distinct.{has_same_value}
use Rattle.jh_timeline_marks.proofs.queues.has_any.Given as goal

abbrev pub invariant-loop-item : goal.invariant-loop-item
invariant-loop-item l = l.has ≡ list_any (λ x. has_same_value (views l.values) (normal x)) (views (take l.item-index l.items))
