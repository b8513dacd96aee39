use Rattle.jh_ops.specs.Operation.{operations}
use Rattle.jh_independent.specs.SplitInside.{IsSplitSoFar}
use Rattle.jh_independent.proofs.histories.histories_by_key.Given as goal

abbrev pub invariant-loop-group : goal.invariant-loop-group
invariant-loop-group l = IsSplitSoFar (operations l.fn.history) l.parts.items l.group-iterator.rest.items
