use Rattle.std.proofs.Common.{◌≡◌, ◌≤◌, ◌*◌, ◌++◌, drop, length}
use Rattle.jh_ops.specs.Operation.{operations}
use Rattle.jh_simnode.specs.Histories.{journal_history, operations_from}
use Rattle.jh_simnode.proofs.history.journal_history.Given as goal

abbrev pub invariant-loop-event : goal.invariant-loop-event
invariant-loop-event l = record {
  given : operations l.history.items ++ operations_from (length l.history.items) l.number l.entry (drop l.event-index l.journal) ≡ journal_history l.journal;
  few : length l.history.items ≤ 2 * l.event-index;
  number : l.number ≡ l.event-index;
  entry : l.entry ≤ l.event-index;
}
