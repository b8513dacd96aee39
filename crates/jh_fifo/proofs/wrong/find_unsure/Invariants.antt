use Rattle.std.proofs.Common.{ℕ, ◌<◌}
use Rattle.jh_fifo.specs.Judged.{IsUnsure}
use Rattle.jh_fifo.proofs.wrong.find_unsure.Given as goal

abbrev pub invariant-loop-place : goal.invariant-loop-place
invariant-loop-place l = (p : ℕ) → p < l.place → IsUnsure l.ops p → ⊥
