use Rattle.std.proofs.Common.{◌≡◌, ℕ, ◌<◌, true}
use Rattle.std.specs.Prelude.{◌⊎◌}
use Rattle.jh_unique.specs.Clusters.{ReadsNil}
use Rattle.jh_linear.specs.Order.{has}
use Rattle.jh_unique.specs.Unique.{MustStand}
use Rattle.jh_unique.proofs.flat.find_missing.Given as goal

abbrev pub invariant-loop-number : goal.invariant-loop-number
invariant-loop-number l = (p : ℕ) → p < l.number → MustStand l.ops p → (has l.flat p ≡ true) ⊎ ReadsNil l.ops p
