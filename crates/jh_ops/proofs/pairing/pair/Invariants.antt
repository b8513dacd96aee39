use Rattle.jh_ops.specs.Operation.{operations}
use Rattle.jh_ops.proofs.PlaceLemmas.{Stands, stages_in}
use Rattle.jh_ops.proofs.pairing.pair.Given as goal

abbrev pub invariant-loop-place : goal.invariant-loop-place
invariant-loop-place l = Stands (stages_in l.stages) l.pairs.items (operations l.history) l.place
