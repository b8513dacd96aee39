use Rattle.std.proofs.Common.{◌≡◌, ◌++◌, drop}
use Rattle.jh_ops.specs.Operation.{operations}
use Rattle.jh_test_parts.specs.Records.{recorded_operations}
use Rattle.jh_test_parts.proofs.operations.operations_of.Given as goal

abbrev pub invariant-loop-index : goal.invariant-loop-index
invariant-loop-index l = operations l.ops.items ++ recorded_operations l.nodes l.index (drop l.index l.records) ≡ recorded_operations l.nodes 0 l.records
