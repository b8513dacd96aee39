use Rattle.std.proofs.Common.{◌≡◌, ℕ, [], None, length, drop}
use Rattle.jh_txn.specs.Transactions.{appended}
use Rattle.jh_txn_writers.specs.TableInside.{last_at}
use Rattle.jh_txn_writers.proofs.table.forget.Given as goal

abbrev pub invariant-loop-op : goal.invariant-loop-op
invariant-loop-op l = record {
  keys : length l.entries.last.items ≡ length l.fn.entries.last.items;
  table : l.entries.table.items ≡ l.fn.entries.table.items;
  last : (key : ℕ) → appended key (drop l.op-index l.ops) ≡ [] → last_at l.entries.last.items key ≡ None;
}
