use Rattle.std.proofs.Common.{◌<◌, ◌≤◌, ◌⊎◌, inl, inr, length, get_or, sym, subst, ◌∙◌, arith, rules}
use Rattle.jh_edn.specs.Edn.{size_of, size_list, size_pairs}
use Rattle.jh_edn.specs.View.{view, views}
use Rattle.jh_edn.proofs.CompareLemmas.{item_smaller, pair_smaller, items_end, pairs_end}
use Rattle.jh_edn.proofs.+compare.Goals as goal
use Rattle.jh_edn.proofs.+compare.Goals.{order::compare_items-then-loop-at-test+else-at-ys, order::compare_items-else-loop-at-test, order::compare_pairs-then-loop-at-test+else-at-qs, order::compare_pairs-else-loop-at-test}

pub order::compare_items-compare-order-requires : goal.order::compare_items-compare-order-requires
order::compare_items-compare-order-requires t c =
    let xs = c.as_slice-xs.result.now in
    let x = c.index-xs-at.result in
    let here : size_of (view x) < size_list (views xs) = subst (λ y. size_of (view y) < size_list (views xs)) (sym c.index-xs-at.is) (item_smaller xs c.loop-at.at x (omega arith)) in
    let smaller : size_of (view x) < size_list c.args.a.now = subst (λ ys. size_of (view x) < size_list ys) c.as_slice-xs.ensures here in
    search rules

pub order::compare_items-returns : goal.order::compare_items-returns
order::compare_items-returns t c =
    let xs = c.as_slice-xs.result.now in
    let ys = c.as_slice-ys.result.now in
    let l = c.loop-at in
    let over : (length xs ≤ l.at) ⊎ (length ys ≤ l.at) = elim c.loop-at-test.branch [ order::compare_items-then-loop-at-test+else-at-ys w ↦ inr (omega arith) | order::compare_items-else-loop-at-test w ↦ inl (omega arith) ] in
    let done = sym (items_end xs ys l.at l.invariant.in_xs l.invariant.in_ys over) ∙ l.invariant.same in
    rw (← c.as_slice-xs.ensures, ← c.as_slice-ys.ensures) (c.cmp.ensures ∙ done)

pub order::compare_pairs-compare-keys-requires : goal.order::compare_pairs-compare-keys-requires
order::compare_pairs-compare-keys-requires t c =
    let ps = c.as_slice-ps.result.now in
    let p = get_or ps c.loop-at.at c.index-ps-at.result in
    let smaller : size_of (view p.0) < size_pairs c.args.a.now = subst (λ qs. size_of (view p.0) < size_pairs qs) c.as_slice-ps.ensures (pair_smaller ps c.loop-at.at c.index-ps-at.result (omega arith)).0 in
    search rules

pub order::compare_pairs-compare-values-requires : goal.order::compare_pairs-compare-values-requires
order::compare_pairs-compare-values-requires t c =
    let ps = c.as_slice-ps.result.now in
    let p = get_or ps c.loop-at.at c.index-ps-at-in-loop-at.result in
    let smaller : size_of (view p.1) < size_pairs c.args.a.now = subst (λ qs. size_of (view p.1) < size_pairs qs) c.as_slice-ps.ensures (pair_smaller ps c.loop-at.at c.index-ps-at-in-loop-at.result (omega arith)).1 in
    search rules

pub order::compare_pairs-returns : goal.order::compare_pairs-returns
order::compare_pairs-returns t c =
    let ps = c.as_slice-ps.result.now in
    let qs = c.as_slice-qs.result.now in
    let l = c.loop-at in
    let over : (length ps ≤ l.at) ⊎ (length qs ≤ l.at) = elim c.loop-at-test.branch [ order::compare_pairs-then-loop-at-test+else-at-qs w ↦ inr (omega arith) | order::compare_pairs-else-loop-at-test w ↦ inl (omega arith) ] in
    let done = sym (pairs_end ps qs l.at l.invariant.in_ps l.invariant.in_qs over) ∙ l.invariant.same in
    rw (← c.as_slice-ps.ensures, ← c.as_slice-qs.ensures) (c.cmp.ensures ∙ done)
