use Rattle.std.proofs.Common.{◌≡◌, ℕ, ◌+◌, ◌-◌, ◌/◌, ◌<◌, ◌≤◌, length, get_or, sym, subst, ◌∙◌, refl, arith}
use Rattle.std.proofs.lemmas.List.{get_or_default}
use Rattle.jh_linear.specs.Order.{IsLegalFrom}
use Rattle.jh_linear.specs.Verdict.{HaveNoOrder}
use Rattle.jh_linear.specs.Stuck.{ops_before}
use Rattle.jh_unique.specs.Cuts.{IsHalved, IsOrderBefore}
use Rattle.jh_unique.proofs.HalvingLemmas.{some_end, halved_start, halved_high, halved_end}
use Rattle.jh_unique.proofs.cuts.stuck_of.Goals as goal

pub overflow_sub-high : goal.overflow_sub-high
overflow_sub-high c =
    let some = some_end c.args.ops.now c.requires.ends c.args.initial c.in_ok-ends.ends.items c.in_ok-ends.ensures c.requires.none in
    omega (arith, some, c.len-high.ensures)

pub halving-init : goal.halving-init
halving-init c =
    let ops = c.args.ops.now in
    let initial = c.args.initial in
    let ends = c.in_ok-ends.ends.items in
    let high : ℕ = c.len-high.result - 1 in
    let some = some_end ops c.requires.ends initial ends c.in_ok-ends.ensures c.requires.none in
    let last : high + 1 ≡ length ends = omega (arith, some, c.len-high.ensures) in
    subst (IsHalved ops initial ends 0 high) (sym (c.of-order.ensures ∙ c.new.ensures.items)) (halved_start ops c.requires.ends initial ends c.in_ok-ends.ensures c.requires.none high last)

pub halving-preserved : goal.halving-preserved
halving-preserved c =
    let ops = c.args.ops.now in
    let initial = c.args.initial in
    let ends = c.in_ok-ends.ends.items in
    let l = c.halving in
    let middle : ℕ = l.high - (l.high - l.low) / 2 in
    let above : l.low < middle = omega (arith, c.halving-test.true) in
    let below : middle ≤ l.high = omega arith in
    let inside = l.invariant.inside in
    let at : c.index.result.now ≡ get_or ends middle 0 = c.index.ensures ∙ get_or_default ends middle c.index.result.now 0 (omega (arith, inside, below)) in
    let none : HaveNoOrder (ops_before ops (get_or ends middle 0)) initial = subst (λ e. HaveNoOrder (ops_before ops e) initial) at (subst (IsOrderBefore ops initial c.index.result.now) c.in-None.is c.in_ok-found.ensures) in
    halved_high ops c.requires.ends initial ends c.in_ok-ends.ensures l.low l.high middle l.order l.invariant above below none (middle - 1) (omega (arith, above))

pub returns : goal.returns
returns c =
    let ops = c.args.ops.now in
    let initial = c.args.initial in
    let ends = c.in_ok-ends.ends.items in
    let l = c.halving in
    let between = l.invariant.between in
    let same : l.high ≡ l.low = omega (arith, between, c.halving-test.false) in
    let inside = l.invariant.inside in
    let at : c.index-2.result.now ≡ get_or ends l.low 0 = c.index-2.ensures ∙ get_or_default ends l.low c.index-2.result.now 0 (omega (arith, inside, same)) in
    halved_end ops c.requires.ends initial ends c.in_ok-ends.ensures l.low l.order (subst (λ h. IsHalved ops initial ends l.low h l.order) same l.invariant) _ at refl
    (λ last runs. c.value_after-value.ensures last (subst (λ o. IsLegalFrom ops initial o last) (sym c.as_slice.ensures) runs))
