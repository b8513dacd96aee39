use Rattle.std.proofs.Common.{ℕ, ◌<◌, ◌≤◌}
use Rattle.jh_fifo.specs.Moments.{IsCovered, IsSwept}
use Rattle.jh_fifo.proofs.moments.first_free.Given as goal

abbrev pub invariant-loop-number : goal.invariant-loop-number
invariant-loop-number l = record {
  later : l.fn.sweep.at ≤ l.at;
  covered : (place : ℕ) → l.fn.sweep.at ≤ place → place < l.at → IsCovered l.values place;
  swept : IsSwept l.values l.entered l.number l.at;
}
