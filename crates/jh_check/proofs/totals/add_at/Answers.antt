use Rattle.std.proofs.Common.{◌+◌, ◌<◌, ◌∙◌, length, take, set, sym, ap, arith}
use Rattle.std.specs.List.{sum}
use Rattle.jh_check.specs.CounterInside.{increase_before}
use Rattle.jh_check.proofs.SumLemmas.{sum_put, sum_whole}
use Rattle.jh_check.proofs.totals.add_at.Goals as goal

pub returns-in-Some-clause-sums : goal.returns-in-Some-clause-sums
returns-in-Some-clause-sums c place =
    let items = c.args.amounts.now.items in
    let at = c.in-Some.increase.place in
    let there : at < length items = omega (arith, c.requires.there c.in-Some.increase c.in-Some.is) in
    (λ k. sum (take place (set items at (c.index_mut.ensures.value k + c.from.ensures k))))
    ∙ sum_put items at c.index_mut.result.now c.in-Some.increase.amount place there
    ∙ ap (λ o. sum (take place items) + increase_before place o) (sym c.in-Some.is)

pub returns-in-Some-clause-whole : goal.returns-in-Some-clause-whole
returns-in-Some-clause-whole c =
    let items = c.args.amounts.now.items in
    let at = c.in-Some.increase.place in
    let there : at < length items = omega (arith, c.requires.there c.in-Some.increase c.in-Some.is) in
    let whole =
    (λ k. sum (set items at (c.index_mut.ensures.value k + c.from.ensures k)))
    ∙ sum_whole items at c.index_mut.result.now c.in-Some.increase.amount there in
    omega (arith, whole, c.requires.amount c.in-Some.increase c.in-Some.is)
