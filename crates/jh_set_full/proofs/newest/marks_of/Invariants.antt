use Rattle.std.proofs.Common.{◌≡◌, ℕ, take, length}
use Rattle.jh_set_full.specs.Inside.{latest_of, newest_within}
use Rattle.jh_set_full.proofs.newest.marks_of.Given as goal

abbrev pub invariant-loop-read : goal.invariant-loop-read
invariant-loop-read l = record {
  long : length l.marks.items ≡ l.count;
  marks : (near : ℕ) → latest_of (take near l.marks.items) ≡ newest_within l.count (take l.read-index l.reads) near;
}
