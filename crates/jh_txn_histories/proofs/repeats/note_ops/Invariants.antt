use Rattle.std.proofs.Common.{take}
use Rattle.jh_txn_histories.specs.ReadingInside.{NotesAppends, written_ops}
use Rattle.jh_txn_histories.specs.Written.{appends_of}
use Rattle.jh_txn_histories.proofs.repeats.note_ops.Given as goal

abbrev pub invariant-loop-op : goal.invariant-loop-op
invariant-loop-op l = NotesAppends l.fn.tables l.tables (appends_of (written_ops (take l.op-index l.ops))) l.again
