use Rattle.std.proofs.Common.{◌<◌, length, arith}
use Rattle.jh_txn_snapshot_judge.proofs.SerialLemmas.{at_once_more}
use Rattle.jh_txn_snapshot_judge.proofs.serial.points_at_once.Goals as goal

pub loop-place-preserved : goal.loop-place-preserved
loop-place-preserved c =
    let low : c.loop-place.place-index < length c.args.places.now = omega arith in
    at_once_more c.args.there.now c.args.places.now c.loop-place.place-index c.loop-place.points.items c.add_at_once.new.points.items low c.loop-place.invariant c.in_ok-add_at_once.ensures
