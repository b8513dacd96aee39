use Rattle.std.proofs.Common.{◌≤◌, ◌+◌, take}
use Rattle.jh_env.specs.Overlay.{StandsWith, KeepsStart, work_of}
use Rattle.jh_nemesis.specs.AcceptedInside.{faults_at, faults_with_stamps}
use Rattle.jh_nemesis.specs.Work.{size_of_all}
use Rattle.jh_nemesis.proofs.effects.put_each.Given as goal

abbrev pub invariant-loop-stamp : goal.invariant-loop-stamp
invariant-loop-stamp l = record {
  stands : StandsWith l.env (faults_with_stamps l.accepted (take l.stamp-index l.stamps));
  kept : KeepsStart l.fn.env l.env;
  work : work_of l.env ≤ work_of l.fn.env + size_of_all (faults_at l.accepted (take l.stamp-index l.stamps));
}
