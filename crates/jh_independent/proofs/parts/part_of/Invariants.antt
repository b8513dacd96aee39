use Rattle.std.proofs.Common.{◌≡◌, map, take}
use Rattle.jh_ops.specs.Operation.{operations}
use Rattle.jh_independent.specs.Keys.{operation_without_key}
use Rattle.jh_independent.specs.PartsInside.{operation_at}
use Rattle.jh_independent.proofs.parts.part_of.Given as goal

abbrev pub invariant-loop-place : goal.invariant-loop-place
invariant-loop-place l = operations l.part.items ≡ map (λ place. operation_without_key (operation_at (operations l.history) place)) (take l.place-index l.places)
