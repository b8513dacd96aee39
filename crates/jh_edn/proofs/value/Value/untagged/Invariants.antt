use Rattle.std.proofs.Common.{◌≡◌}
use Rattle.jh_edn.specs.Edn.{size_of, untagged_value}
use Rattle.jh_edn.specs.View.{view}
use Rattle.jh_edn.proofs.value.Value.untagged.Given as goal

abbrev pub invariant-loop-tagged : goal.invariant-loop-tagged
invariant-loop-tagged l = untagged_value (view l.value) ≡ untagged_value (view l.fn.self)

abbrev pub decreases-loop-tagged : goal.decreases-loop-tagged
decreases-loop-tagged l = size_of (view l.value)
