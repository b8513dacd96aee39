-- The operations that a finding shows of a history, as the history has them. This project's own. The
-- number of an operation is its place among the pairs of the history.
use Rattle.std.specs.Prelude.{◌≡◌, ℕ, List, Option, Some, option_and_then, slice_get}
use Rattle.std.specs.List.{AllZip}
use Rattle.jh_ops.specs.Operation.{Operation, operation}
use Rattle.jh_ops.specs.declared.operation.Op.{Op}
use Rattle.jh_ops.specs.declared.pairs.Pair.{Pair}
use Rattle.jh_check.specs.CounterResults.{end_place}

-- the last record of the operation with a number: its completion, if there is one
abbrev pub last_operation_at : List Operation → List Pair → ℕ → Option Operation
last_operation_at history pairs number =
    option_and_then (λ pair. slice_get history (end_place pair)) (slice_get pairs number)

-- the last records of the operations with these numbers, one after another
abbrev pub AreOperationsAt : List Operation → List Pair → List ℕ → List Op → Type 0
AreOperationsAt history pairs =
    AllZip (λ number op. last_operation_at history pairs number ≡ Some (operation op))
