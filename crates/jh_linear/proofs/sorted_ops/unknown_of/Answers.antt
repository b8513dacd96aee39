use Rattle.std.proofs.Common.{◌≡◌, ℕ, ◌+◌, ◌<◌, length, refl, sym, ap, subst, ◌∙◌, arith}
use Rattle.std.proofs.lemmas.List.{get_or_default}
use Rattle.jh_linear.specs.declared.register.RegOp.{RegOp}
use Rattle.jh_linear.specs.Order.{no_op}
use Rattle.jh_linear.specs.SearchInside.{AreNumberEntries, IsUnsureChange, is_unsure_change, unknown_entry}
use Rattle.jh_linear.proofs.NumberSetLemmas.{not_true}
use Rattle.jh_linear.proofs.EntryLemmas.{entries_none, entries_skip, entries_push, entries_moved}
use Rattle.jh_linear.proofs.sorted_ops.unknown_of.Goals as goal
use Rattle.jh_linear.proofs.sorted_ops.unknown_of.Goals.{else-is_unsure_change, then-is_unsure_change+in_ok-push}

pub loop-number-init : goal.loop-number-init
loop-number-init c = subst (AreNumberEntries (IsUnsureChange c.args.ops.now) (unknown_entry c.args.ops.now) (λ x. x.2) 0) (sym c.new-unknown.ensures.items) (entries_none (IsUnsureChange c.args.ops.now) (unknown_entry c.args.ops.now) (λ x. x.2))

pub loop-number-preserved : goal.loop-number-preserved
loop-number-preserved c =
    let ops = c.args.ops.now in
    let l = c.loop-number in
    let Entries = AreNumberEntries (IsUnsureChange ops) (unknown_entry ops) (λ x. x.2) (l.number + 1) in
    let low : l.number < length ops = omega arith in
    let at = get_or_default ops l.number _ no_op low in
    let parsed = c.is_unsure_change.ensures ∙ ap (λ (o : RegOp). is_unsure_change o.outcome o.call) at in
    elim c.if-is_unsure_change.branch [
      | then-is_unsure_change+in_ok-push w ↦ subst Entries (sym (ap (λ v. v.items) w.unknown-is ∙ w.in_ok-push.ensures.items))
          (entries_push (IsUnsureChange ops) (unknown_entry ops) (λ x. x.2) l.number l.unknown.items _ refl (ap (λ (o : RegOp). (o.call, o.invoked, l.number)) (sym at)) ((sym parsed ∙ w.if-is_unsure_change.true)) l.invariant)
      | else-is_unsure_change w ↦ subst Entries (sym (ap (λ v. v.items) w.unknown-is))
          (entries_skip (IsUnsureChange ops) (unknown_entry ops) (λ x. x.2) l.number l.unknown.items (λ kept. not_true _ (kept) (sym parsed ∙ w.if-is_unsure_change.false)) l.invariant)
    ]

pub returns : goal.returns
returns c = entries_moved (IsUnsureChange c.args.ops.now) (unknown_entry c.args.ops.now) (λ x. x.2) _ c.loop-number.unknown.items c.sort.new.self.items c.in_ok-sort.ensures.permutation
    (let P : ℕ → Type 0 = λ n. AreNumberEntries (IsUnsureChange c.args.ops.now) (unknown_entry c.args.ops.now) (λ x. x.2) n c.loop-number.unknown.items in let end : c.loop-number.number ≡ length c.args.ops.now = omega arith in subst P end c.loop-number.invariant)
