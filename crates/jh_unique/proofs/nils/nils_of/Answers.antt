use Rattle.std.proofs.Common.{◌<◌, ◌∷◌, [], ◌++◌, List, ℕ, length, take, get_or, sym, ap, subst, ◌∙◌, arith}
use Rattle.std.proofs.lemmas.List.{take_more}
use Rattle.jh_unique.specs.Nils.{IsNilRead}
use Rattle.jh_unique.specs.Sorted.{ArePicked}
use Rattle.jh_unique.proofs.ListLemmas.{not_both}
use Rattle.jh_unique.proofs.SortedLemmas.{picked_push, picked_skip}
use Rattle.jh_unique.proofs.nils.nils_of.Goals.{then-is_nil_read+in_ok-push, else-is_nil_read}
use Rattle.jh_unique.proofs.nils.nils_of.Goals as goal

pub loop-number-preserved : goal.loop-number-preserved
loop-number-preserved c =
    let ops = c.args.ops.now in
    let turn = c.args.turn.now in
    let l = c.loop-number in
    let i = l.number-index in
    let x = get_or turn i 0 in
    let low : i < length turn = omega arith in
    let kind = IsNilRead ops in
    let same = c.op_at.ensures in
    subst (λ (xs : List ℕ). ArePicked kind xs c.if-is_nil_read.nils.items) (sym (take_more turn i 0 low)) (elim c.if-is_nil_read.branch as (λ _. ArePicked kind (take i turn ++ x ∷ []) c.if-is_nil_read.nils.items) [
      | then-is_nil_read+in_ok-push w ↦ (let is = c.is_nil_read.ensures.0 w.if-is_nil_read.true in
          subst (ArePicked kind (take i turn ++ x ∷ [])) (sym (ap (λ v. v.items) w.nils-is ∙ w.in_ok-push.ensures.items))
          (picked_push kind (take i turn) l.nils.items x l.invariant (sym (ap (λ o. o.outcome) same) ∙ is.0, sym (ap (λ o. o.call) same) ∙ is.1)))
      | else-is_nil_read w ↦ subst (ArePicked kind (take i turn ++ x ∷ [])) (sym (ap (λ v. v.items) w.nils-is))
          (picked_skip kind (take i turn) l.nils.items x l.invariant (λ h. not_both _ (c.is_nil_read.ensures.1 (ap (λ o. o.outcome) same ∙ h.0, ap (λ o. o.call) same ∙ h.1)) w.if-is_nil_read.false))
    ])
