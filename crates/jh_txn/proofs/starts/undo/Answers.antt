use Rattle.std.proofs.Common.{◌≡◌, ◌<◌, ◌+◌, ◌-◌, ℕ, length, take, get_or, ap, subst, ◌∙◌, arith}
use Rattle.jh_txn.specs.OrderCheckInside.{AreAfter}
use Rattle.jh_txn.proofs.StartLemmas.{undo_more}
use Rattle.jh_txn.proofs.starts.undo.Goals as goal

pub loop-undone-preserved : goal.loop-undone-preserved
loop-undone-preserved c =
    let ops = c.args.ops.now in
    let undone = c.loop-undone.undone in
    let n : ℕ = length ops - (undone + 1) in
    let low : n < length ops = omega arith in
    let up : length ops - undone ≡ n + 1 = omega arith in
    let same : length ops - 1 - undone ≡ n = omega arith in
    let at : c.index-ops-ops.result ≡ get_or ops n c.index-ops-ops.result = c.index-ops-ops.is ∙ ap (λ k. get_or ops k c.index-ops-ops.result) same in
    record {
      count = c.undo_op.ensures.count ∙ c.loop-undone.invariant.count;
      after = λ before all. undo_more ops n c.index-ops-ops.result before c.loop-undone.lists c.undo_op.new.lists low at
          (subst (λ k. AreAfter (take k ops) before c.loop-undone.lists) up (c.loop-undone.invariant.after before all)) c.undo_op.ensures.count c.undo_op.ensures.undone;
    }
