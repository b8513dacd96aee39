use Rattle.std.proofs.Common.{◌≡◌, ◌<◌, ℕ, true, take}
use Rattle.jh_txn.specs.OrderCheckInside.{AreAfter, SawListAt}
use Rattle.jh_txn.proofs.reads.run_ops.Given as goal

abbrev pub invariant-loop-op : goal.invariant-loop-op
invariant-loop-op l = record {
  after : AreAfter (take l.op-index l.ops) l.fn.lists l.lists;
  reads : l.looks ≡ true → (m : ℕ) → m < l.op-index → SawListAt l.fn.lists l.ops m;
}
