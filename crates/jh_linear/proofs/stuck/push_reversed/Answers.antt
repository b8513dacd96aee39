use Rattle.std.proofs.Common.{◌≡◌, ℕ, ◌-◌, ◌<◌, ◌++◌, [], ◌∷◌, length, reverse, take, get_or, sym, ap, ◌∙◌, arith}
use Rattle.std.proofs.lemmas.List.{append_assoc, append-nil, get_or-reverse, length-reverse, take_all, take_more}
use Rattle.jh_linear.proofs.stuck.push_reversed.Goals as goal

pub loop-done-init : goal.loop-done-init
loop-done-init c = sym (append-nil c.args.order.now.items)

pub loop-done-preserved : goal.loop-done-preserved
loop-done-preserved c =
    let placed = c.args.placed.now in
    let l = c.loop-done in
    let old = c.args.order.now.items in
    let low : l.done < length (reverse placed) = omega (arith, length-reverse placed) in
    let index : ℕ = length placed - 1 - l.done in
    let this : get_or placed index 0 ≡ get_or (reverse placed) l.done 0 = sym (get_or-reverse placed l.done 0 (omega arith)) in
    c.in_ok-push.ensures.items
    ∙ ap (λ o. o ++ get_or placed index 0 ∷ []) l.invariant
    ∙ append_assoc old (take l.done (reverse placed)) (get_or placed index 0 ∷ [])
    ∙ ap (λ x. old ++ (take l.done (reverse placed) ++ x ∷ [])) this
    ∙ ap (λ o. old ++ o) (sym (take_more (reverse placed) l.done 0 low))

pub returns : goal.returns
returns c =
    let placed = c.args.placed.now in
    let l = c.loop-done in
    l.invariant ∙ ap (λ o. c.args.order.now.items ++ o) (take_all l.done (reverse placed) (omega (arith, length-reverse placed)))
