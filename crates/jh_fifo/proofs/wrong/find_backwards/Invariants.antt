use Rattle.std.proofs.Common.{ℕ, ◌<◌}
use Rattle.jh_fifo.specs.Reasons.{EndsTooSoon}
use Rattle.jh_fifo.proofs.wrong.find_backwards.Given as goal

abbrev pub invariant-loop-place : goal.invariant-loop-place
invariant-loop-place l = (p : ℕ) → p < l.place → EndsTooSoon l.ops p → ⊥
