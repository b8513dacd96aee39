use Rattle.std.proofs.Common.{take}
use Rattle.jh_txn_seen.specs.Inside.{NotesUnread}
use Rattle.jh_txn_seen.proofs.middles.note_unread.Given as goal

abbrev pub invariant-loop-op : goal.invariant-loop-op
invariant-loop-op l = NotesUnread l.marks l.place (take l.op-index l.ops) l.fn.table l.table
