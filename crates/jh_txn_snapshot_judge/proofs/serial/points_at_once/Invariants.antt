use Rattle.std.proofs.Common.{◌≡◌, take}
use Rattle.jh_txn_snapshot_judge.specs.SerialInside.{marked_places}
use Rattle.jh_txn_snapshots.specs.AtOnce.{at_once}
use Rattle.jh_txn_snapshot_judge.proofs.serial.points_at_once.Given as goal

abbrev pub invariant-loop-place : goal.invariant-loop-place
invariant-loop-place l = l.points.items ≡ at_once (marked_places l.there (take l.place-index l.places))
