use Rattle.jh_ops.specs.Operation.{operations}
use Rattle.jh_independent.specs.FoundInside.{IsFoundSoFar}
use Rattle.jh_independent.specs.Refusals.{keys_question}
use Rattle.jh_independent.proofs.serial.check_keys_serial.Given as goal

abbrev pub invariant-loop-group : goal.invariant-loop-group
invariant-loop-group l =
    IsFoundSoFar (keys_question l.fn.judging (operations l.fn.history)) l.found.items l.group-iterator.rest.items
