use Rattle.std.proofs.Common.{◌≡◌}
use Rattle.std.specs.Prelude.{replicate}
use Rattle.jh_simnode.specs.Replicas.{first_replica}
use Rattle.jh_simnode.proofs.replicas.first_replicas.Given as goal

abbrev pub invariant-loop-place : goal.invariant-loop-place
invariant-loop-place l = l.all.items ≡ replicate l._place (first_replica l.database)
