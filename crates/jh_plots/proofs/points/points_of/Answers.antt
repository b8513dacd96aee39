use Rattle.std.proofs.Common.{◌≡◌, ◌∙◌, ◌++◌, ◌∷◌, [], true, false, nat_cmp, get_or, refl, subst, sym, ap, take, arith}
use Rattle.std.specs.BTreeSet.{contains}
use Rattle.std.proofs.lemmas.Bool.{not-false, not-true}
use Rattle.std.proofs.lemmas.List.{take_all}
use Rattle.jh_plots.proofs.CountLemmas.{no_call}
use Rattle.jh_plots.proofs.PointLemmas.{Drawn, drawn_all, drawn_known, drawn_new, taken, updated}
use Rattle.jh_plots.proofs.points.points_of.Goals as goal
use Rattle.jh_plots.proofs.points.points_of.Goals.{then-branch+in_ok-push, else-branch}

pub loop-call-preserved : goal.loop-call-preserved
loop-call-preserved c =
    let l = c.loop-call in
    let scale = c.args.scale.now in
    let calls = c.args.calls.now in
    let call = get_or calls l.call-index no_call in
    let point = c.point_of-point.result in
    let before = take l.call-index calls in
    let old = contains nat_cmp l.seen in
    let new = contains nat_cmp c.insert.new.self in
    let said = c.in_ok-insert.ensures in
    let grows = updated l.seen c.insert.new.self point c.point_number.result c.point_number.ensures said.updates in
    let here = ap old (sym c.point_number.ensures) in
    elim c.if-branch.branch [
      | then-branch+in_ok-push w ↦
          let unseen : old c.point_number.result ≡ false = not-true (old c.point_number.result) (sym said.added ∙ w.if-branch.true) in
          subst (λ xs. Drawn scale xs new c.if-branch.points.items) (sym (taken calls l.call-index call no_call c.loop-call-test.true refl))
          (subst (λ v. Drawn scale (before ++ call ∷ []) new v.items) (sym w.points-is)
          (subst (Drawn scale (before ++ call ∷ []) new) (sym w.in_ok-push.ensures.items)
          (drawn_new scale before old new l.points.items call point l.invariant c.point_of-point.ensures.point c.point_of-point.ensures.within (here ∙ unseen) grows)))
      | else-branch w ↦
          let seen : old c.point_number.result ≡ true = not-false (old c.point_number.result) (sym said.added ∙ w.if-branch.false) in
          subst (λ xs. Drawn scale xs new c.if-branch.points.items) (sym (taken calls l.call-index call no_call c.loop-call-test.true refl))
          (subst (λ v. Drawn scale (before ++ call ∷ []) new v.items) (sym w.points-is)
          (drawn_known scale before old new l.points.items call point l.invariant c.point_of-point.ensures.point c.point_of-point.ensures.within (here ∙ seen) grows))
    ]

pub returns : goal.returns
returns c =
    let l = c.loop-call in
    drawn_all c.args.scale.now c.args.calls.now (contains nat_cmp l.seen) l.points.items
    (subst (λ xs. Drawn c.args.scale.now xs (contains nat_cmp l.seen) l.points.items) (take_all l.call-index c.args.calls.now (omega arith)) l.invariant)
