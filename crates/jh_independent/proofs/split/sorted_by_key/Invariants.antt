use Rattle.std.proofs.Common.{◌≡◌, take}
use Rattle.jh_ops.specs.Operation.{operations}
use Rattle.jh_independent.specs.SplitInside.{keys_with_places, view_keyed}
use Rattle.jh_independent.proofs.split.sorted_by_key.Given as goal

abbrev pub invariant-loop-place : goal.invariant-loop-place
invariant-loop-place l = view_keyed l.keyed.items ≡ keys_with_places (operations (take l.place l.history))
