use Rattle.std.proofs.Common.{◌++◌, take, drop}
use Rattle.jh_simnode.specs.TakingInside.{AreTaken, replicas_from}
use Rattle.jh_simnode.proofs.stores.taken_from.Given as goal

abbrev pub invariant-loop-place : goal.invariant-loop-place
invariant-loop-place l = AreTaken l.replicas l.taken.items (replicas_from l.replicas (take l.place l.sources) ++ drop l.place l.replicas)
