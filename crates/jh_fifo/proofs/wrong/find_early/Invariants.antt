use Rattle.std.proofs.Common.{ℕ, ◌<◌}
use Rattle.jh_fifo.specs.Judged.{IsTimelyAt}
use Rattle.jh_fifo.proofs.wrong.find_early.Given as goal

abbrev pub invariant-loop-place : goal.invariant-loop-place
invariant-loop-place l = (p : ℕ) → p < l.place → IsTimelyAt l.ops p
