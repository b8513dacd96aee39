use Rattle.std.proofs.Common.{◌≡◌, map, take}
use Rattle.jh_nemesis.specs.State.{faults_in}
use Rattle.jh_nemesis.specs.AcceptedInside.{faults_at}
use Rattle.jh_nemesis.proofs.accepted.faults_of.Given as goal

abbrev pub invariant-loop-stamp : goal.invariant-loop-stamp
invariant-loop-stamp l = map (λ f. f.now) l.faults.items ≡ faults_in (faults_at l.accepted (take l.stamp-index l.stamps))
