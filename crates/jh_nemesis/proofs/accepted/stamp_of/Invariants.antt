use Rattle.std.proofs.Common.{◌≡◌, take, false}
use Rattle.jh_nemesis.specs.State as spec
use Rattle.jh_nemesis.specs.AcceptedInside.{faults_at}
use Rattle.jh_nemesis.proofs.accepted.stamp_of.Given as goal

abbrev pub invariant-loop-stamp : goal.invariant-loop-stamp
invariant-loop-stamp l = spec.is_active (faults_at l.accepted (take l.stamp-index l.stamps)) l.id ≡ false
