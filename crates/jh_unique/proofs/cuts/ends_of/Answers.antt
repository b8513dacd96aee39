use Rattle.std.proofs.Common.{◌≤◌, ◌+◌, sym, ap, subst, ◌∙◌, arith}
use Rattle.jh_linear.specs.declared.register.RegOp.{RegOp}
use Rattle.jh_linear.specs.Order.{IsDone, op_at}
use Rattle.jh_linear.specs.Stuck.{op_end}
use Rattle.jh_unique.proofs.HalvingLemmas.{AreEndsBelow, ends_skip, ends_push, ends_sorted}
use Rattle.jh_unique.proofs.ListLemmas.{not_both}
use Rattle.jh_unique.proofs.cuts.ends_of.Goals.{then-is_done+in_ok-push, else-is_done}
use Rattle.jh_unique.proofs.cuts.ends_of.Goals as goal

pub end_of-requires : goal.end_of-requires
end_of-requires c = λ end is.
    let same = c.op_at-op.ensures in
    let low = c.requires.ends c.loop-number.number end (sym (ap (λ (o : RegOp). o.ended) same) ∙ is) in
    let at = ap (λ (o : RegOp). o.invoked) same in
    omega (arith, low, at)

pub loop-number-preserved : goal.loop-number-preserved
loop-number-preserved c =
    let ops = c.args.ops.now in
    let l = c.loop-number in
    let n = l.number in
    let same = c.op_at-op.ensures in
    elim c.if-is_done.branch as (λ _. AreEndsBelow ops (n + 1) c.if-is_done.ends.items) [
      | then-is_done+in_ok-push w ↦
          let done : IsDone ops n = sym (ap (λ (o : RegOp). o.outcome) same) ∙ c.is_done.ensures.0 w.if-is_done.true in
          let later : (op_at ops n).invoked ≤ w.end_of.result = subst (λ (o : RegOp). o.invoked ≤ w.end_of.result) same w.end_of.ensures.later in
          subst (AreEndsBelow ops (n + 1)) (sym (ap (λ v. v.items) w.ends-is ∙ w.in_ok-push.ensures.items))
          (ends_push ops n w.end_of.result l.ends.items done (w.end_of.ensures.is ∙ ap op_end same) later w.end_of.ensures.small l.invariant)
      | else-is_done w ↦ subst (AreEndsBelow ops (n + 1)) (sym (ap (λ v. v.items) w.ends-is))
          (ends_skip ops n l.ends.items (λ h. not_both _ (c.is_done.ensures.1 (ap (λ (o : RegOp). o.outcome) same ∙ h)) w.if-is_done.false) l.invariant)
    ]

pub returns : goal.returns
returns c =
    let l = c.loop-number in
    ends_sorted c.args.ops.now l.number l.ends.items c.sort.new.self.items (omega (arith, c.loop-number-test.false)) c.in_ok-sort.ensures.permutation c.in_ok-sort.ensures.sorted l.invariant
