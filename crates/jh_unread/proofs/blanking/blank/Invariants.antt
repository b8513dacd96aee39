use Rattle.std.proofs.Common.{◌≡◌, ℕ, ◌<◌, ◌≤◌, get_or}
use Rattle.jh_unread.specs.Blanks.{blank}
use Rattle.jh_unread.proofs.blanking.blank.Given as goal

abbrev pub invariant-loop-b : goal.invariant-loop-b
invariant-loop-b l = record {
  done : (k : ℕ) → k < l.b-index → get_or l.bytes k 0 ≡ blank (get_or l.fn.bytes k 0);
  left : (k : ℕ) → l.b-index ≤ k → get_or l.bytes k 0 ≡ get_or l.fn.bytes k 0;
}
