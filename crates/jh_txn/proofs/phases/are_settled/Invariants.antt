use Rattle.std.proofs.Common.{◌<◌, ℕ, get_or}
use Rattle.jh_txn.specs.declared.phases.Phase.TheVariants.{New}
use Rattle.jh_txn.specs.SnapshotCheckInside.{IsPhaseSettled}
use Rattle.jh_txn.proofs.phases.are_settled.Given as goal

abbrev pub invariant-loop-place : goal.invariant-loop-place
invariant-loop-place l = (place : ℕ) → place < l.place → IsPhaseSettled l.txns place (get_or l.phases place New)
