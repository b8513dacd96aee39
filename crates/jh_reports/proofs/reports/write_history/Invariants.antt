use Rattle.std.proofs.Common.{◌≡◌, ◌++◌, drop}
use Rattle.jh_ops.specs.Operation.{operations}
use Rattle.jh_ops.specs.HistoryWritten.{history_lines}
use Rattle.jh_reports.proofs.reports.write_history.Given as goal

abbrev pub invariant-loop-op : goal.invariant-loop-op
invariant-loop-op l = l.output.items ++ history_lines (operations (drop l.op-index l.history)) ≡ l.fn.output.items ++ history_lines (operations l.history)
