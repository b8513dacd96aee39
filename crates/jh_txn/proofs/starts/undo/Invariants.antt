use Rattle.std.proofs.Common.{◌≡◌, ◌-◌, ℕ, List, take, length}
use Rattle.std.specs.Prelude.{Vec}
use Rattle.std.specs.declared.alloc.Global.{Global}
use Rattle.jh_txn.specs.OrderCheckInside.{AreAfter}
use Rattle.jh_txn.proofs.starts.undo.Given as goal

abbrev pub invariant-loop-undone : goal.invariant-loop-undone
invariant-loop-undone l = record {
  count : length l.lists ≡ length l.fn.lists;
  after : (before : List (Vec ℕ Global)) → AreAfter l.ops before l.fn.lists → AreAfter (take (length l.ops - l.undone) l.ops) before l.lists;
}
