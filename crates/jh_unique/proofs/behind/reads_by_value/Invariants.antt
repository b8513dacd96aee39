use Rattle.std.proofs.Common.{ℤ, take}
use Rattle.jh_unique.specs.Sorted.{ArePicked}
use Rattle.jh_unique.specs.Steps.{IsReadOf}
use Rattle.jh_unique.specs.Tables.{reads_under}
use Rattle.jh_unique.proofs.behind.reads_by_value.Given as goal

abbrev pub invariant-loop-number : goal.invariant-loop-number
invariant-loop-number l = (v : ℤ) → ArePicked (IsReadOf l.ops v) (take l.number-index l.turn) (reads_under l.reads v)
