use Rattle.std.proofs.Common.{◌≡◌, ℕ, ◌+◌, ◌-◌, ◌^◌, ◌<◌, length, unwrap_or, refl, sym, ap, subst, ◌∙◌, arith}
use Rattle.std.proofs.lemmas.List.{get_or_default}
use Rattle.jh_linear.specs.declared.register.RegOp.{RegOp}
use Rattle.jh_linear.specs.CheckingInside.{is_outcome_done}
use Rattle.jh_linear.specs.Order.{no_op, IsDone}
use Rattle.jh_linear.specs.SearchInside.{AreNumberEntries, end_entry}
use Rattle.jh_linear.proofs.NumberSetLemmas.{not_true}
use Rattle.jh_linear.proofs.OrderLemmas.{done_test, is_done_if}
use Rattle.jh_linear.proofs.EntryLemmas.{entries_none, entries_skip, entries_push, entries_moved, do_not_fall}
use Rattle.jh_linear.proofs.sorted_ops.ends_of.Goals as goal
use Rattle.jh_linear.proofs.sorted_ops.ends_of.Goals.{else-is_done, then-is_done+in_ok-push}

pub loop-number-init : goal.loop-number-init
loop-number-init c = subst (AreNumberEntries (IsDone c.args.ops.now) (end_entry c.args.ops.now) (λ x. x.1) 0) (sym c.new-ends.ensures.items) (entries_none (IsDone c.args.ops.now) (end_entry c.args.ops.now) (λ x. x.1))

pub loop-number-preserved : goal.loop-number-preserved
loop-number-preserved c =
    let ops = c.args.ops.now in
    let l = c.loop-number in
    let Entries = AreNumberEntries (IsDone ops) (end_entry ops) (λ x. x.1) (l.number + 1) in
    let low : l.number < length ops = omega arith in
    let at = get_or_default ops l.number _ no_op low in
    let parsed = c.is_done.ensures ∙ ap (λ (o : RegOp). is_outcome_done o.outcome) at in
    elim c.if-is_done.branch [
      | then-is_done+in_ok-push w ↦ subst Entries (sym (ap (λ v. v.items) w.ends-is ∙ w.in_ok-push.ensures.items))
          (entries_push (IsDone ops) (end_entry ops) (λ x. x.1) l.number l.ends.items _ refl (ap (λ (o : RegOp). (unwrap_or o.ended (2 ^ 64 - 1), l.number)) (sym at) ∙ ap (λ e. (e, l.number)) (sym w.op_end.ensures)) (done_test _ (sym parsed ∙ w.if-is_done.true)) l.invariant)
      | else-is_done w ↦ subst Entries (sym (ap (λ v. v.items) w.ends-is))
          (entries_skip (IsDone ops) (end_entry ops) (λ x. x.1) l.number l.ends.items (λ kept. not_true _ (is_done_if ops l.number kept) (sym parsed ∙ w.if-is_done.false)) l.invariant)
    ]

pub returns-clause-entries : goal.returns-clause-entries
returns-clause-entries c = entries_moved (IsDone c.args.ops.now) (end_entry c.args.ops.now) (λ x. x.1) _ c.loop-number.ends.items c.sort.new.self.items c.in_ok-sort.ensures.permutation
    (let P : ℕ → Type 0 = λ n. AreNumberEntries (IsDone c.args.ops.now) (end_entry c.args.ops.now) (λ x. x.1) n c.loop-number.ends.items in let end : c.loop-number.number ≡ length c.args.ops.now = omega arith in subst P end c.loop-number.invariant)

pub returns-clause-rises : goal.returns-clause-rises
returns-clause-rises c = do_not_fall c.sort.new.self.items c.in_ok-sort.ensures.sorted
