use Rattle.std.proofs.Common.{◌<◌, ◌≤◌, ◌+◌, length, sym, ap, subst, ◌++◌, ◌∷◌, [], ◌∙◌, inl, arith}
use Rattle.std.proofs.lemmas.List.{get_or_default}
use Rattle.jh_unique.specs.Nils.{IsMergedSoFar, IsTurnOfRead}
use Rattle.jh_unique.proofs.ListLemmas.{not_both}
use Rattle.jh_unique.proofs.NilLemmas.{merged_start, merged_read, merged_order, merged_end}
use Rattle.jh_unique.proofs.nils.with_reads.Goals.{then-at-order, else-at-order+then-next-len}
use Rattle.jh_unique.proofs.nils.with_reads.Goals as goal

pub merging-init : goal.merging-init
merging-init c =
    let ops = c.args.ops.now in
    subst (IsMergedSoFar ops c.args.initial c.args.order.now c.in_ok-nils.nils.items 0 0) (sym c.new-all.ensures.items)
    (merged_start ops c.args.initial c.requires.ends c.args.turn.now c.requires.turn c.args.order.now c.in_ok-nils.nils.items c.in_ok-nils.ensures c.requires.none c.requires.part)

pub merging-preserved-then-comes_next : goal.merging-preserved-then-comes_next
merging-preserved-then-comes_next c =
    let ops = c.args.ops.now in
    let order = c.args.order.now in
    let nils = c.in_ok-nils.nils.items in
    let l = c.merging in
    let takes : IsTurnOfRead ops order l.at nils l.next = subst (λ xs. IsTurnOfRead ops order l.at xs l.next) c.deref.ensures.value (c.comes_next.ensures.0 c.if-comes_next.true) in
    subst (IsMergedSoFar ops c.args.initial order nils l.at (l.next + 1)) (sym (c.in_ok-push.ensures.items ∙ ap (λ x. l.all.items ++ x ∷ []) (c.index.ensures ∙ get_or_default nils l.next c.index.result.now 0 takes.0)))
    (merged_read ops c.args.initial c.requires.ends c.args.turn.now c.requires.turn order nils c.in_ok-nils.ensures c.requires.none l.at l.next l.all.items l.invariant takes)

pub merging-preserved : goal.merging-preserved
merging-preserved c =
    let ops = c.args.ops.now in
    let order = c.args.order.now in
    let nils = c.in_ok-nils.nils.items in
    let l = c.merging in
    let not_read : IsTurnOfRead ops order l.at nils l.next → ⊥ = λ takes. not_both _ (c.comes_next.ensures.1 (subst (λ xs. IsTurnOfRead ops order l.at xs l.next) (sym c.deref.ensures.value) takes)) c.if-comes_next.false in
    let low : l.at < length order = elim c.if-at-order.branch as (λ _. l.at < length order) [
      | then-at-order w ↦ w.if-at-order.true
      | else-at-order+then-next-len w ↦ absurd (not_read (omega (arith, w.if-next-len.true, w.len.ensures), inl w.if-at-order.false))
    ] in
    subst (IsMergedSoFar ops c.args.initial order nils (l.at + 1) l.next) (sym c.in_ok-push-2.ensures.items)
    (merged_order ops c.args.initial c.requires.ends c.args.turn.now c.requires.turn order nils c.in_ok-nils.ensures c.requires.none l.at l.next l.all.items l.invariant low not_read)

pub returns : goal.returns
returns c =
    let l = c.merging in
    let read : length c.in_ok-nils.nils.items ≤ l.next = omega (arith, c.if-next-len.false, c.len.ensures) in
    merged_end c.args.ops.now c.args.initial c.requires.ends c.args.turn.now c.requires.turn c.args.order.now c.in_ok-nils.nils.items c.in_ok-nils.ensures c.requires.none l.at l.next l.all.items l.invariant c.if-at-order.false read c.requires.whole
