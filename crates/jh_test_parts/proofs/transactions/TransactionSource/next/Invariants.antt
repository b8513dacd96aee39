use Rattle.std.proofs.Common.{◌≡◌, ◌++◌, ◌-◌}
use Rattle.jh_edn.specs.View.{views}
use Rattle.jh_test_parts.specs.Transactions.{after_random_number, next_ops}
use Rattle.jh_test_parts.proofs.transactions.TransactionSource.next.Given as goal

-- what was made, with what is still to come, is the transaction
abbrev pub invariant-loop-op : goal.invariant-loop-op
invariant-loop-op l = record {
  ops : views l.ops.items ++ (next_ops (l.count - l._op) l.self).0 ≡ (next_ops l.count (after_random_number l.fn.self)).0;
  source : (next_ops (l.count - l._op) l.self).1 ≡ (next_ops l.count (after_random_number l.fn.self)).1;
}
