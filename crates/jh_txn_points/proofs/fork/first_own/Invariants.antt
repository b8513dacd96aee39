use Rattle.std.specs.Prelude.{◌≢◌, ◌<◌, ℕ, Some}
use Rattle.jh_txn_seen.specs.Places.{writer_place}
use Rattle.jh_txn_points.proofs.fork.first_own.Given as goal

abbrev pub invariant-loop-element : goal.invariant-loop-element
invariant-loop-element l = (element : ℕ) → element < l.element → writer_place l.writers l.read.key element ≢ Some l.read.place
