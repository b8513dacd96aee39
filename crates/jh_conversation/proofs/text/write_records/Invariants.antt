use Rattle.std.proofs.Common.{◌≡◌, ◌++◌, drop}
use Rattle.jh_ops.specs.HistoryWritten.{history_lines}
use Rattle.jh_test_parts.specs.Records.{recorded_operations}
use Rattle.jh_conversation.proofs.text.write_records.Given as goal

abbrev pub invariant-loop-index : goal.invariant-loop-index
invariant-loop-index l = l.out.items ++ history_lines (recorded_operations l.nodes l.index (drop l.index l.records)) ≡ l.fn.out.items ++ history_lines (recorded_operations l.nodes l.first (drop l.first l.records))
