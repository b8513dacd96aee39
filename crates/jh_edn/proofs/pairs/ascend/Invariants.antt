use Rattle.std.proofs.Common.{◌+◌, ◌-◌, ◌<◌, ℕ, length}
use Rattle.std.specs.Prelude.{slice_index}
use Rattle.jh_edn.proofs.pairs.ascend.Given as goal

abbrev pub invariant-loop-at : goal.invariant-loop-at
invariant-loop-at l = (0 < l.at) × ((k : ℕ) → k + 1 < l.at → slice_index l.numbers k < slice_index l.numbers (k + 1))

abbrev pub decreases-loop-at : goal.decreases-loop-at
decreases-loop-at l = length l.numbers - l.at
