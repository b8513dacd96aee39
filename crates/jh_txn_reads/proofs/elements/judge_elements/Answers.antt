use Rattle.std.proofs.Common.{◌≡◌, ◌<◌, length, true, sym, subst, arith}
use Rattle.std.proofs.lemmas.List.{take_all}
use Rattle.jh_txn.specs.Transactions.{includes}
use Rattle.jh_txn.proofs.ListLemmas.{place_included}
use Rattle.jh_txn_reads.specs.Inside.{IsSoundElement}
use Rattle.jh_txn_reads.proofs.ElementLemmas.{elements_more}
use Rattle.jh_txn_reads.proofs.elements.judge_elements.Goals as goal

pub returns-in-Some : goal.returns-in-Some
returns-in-Some c =
    let base = c.args.base.now in
    let i = c.loop-element.element-index in
    let low : i < length base = omega arith in
    c.in-Some.ensures base c.requires.marked (place_included base i low)

pub loop-element-preserved : goal.loop-element-preserved
loop-element-preserved c =
    let base = c.args.base.now in
    let i = c.loop-element.element-index in
    let low : i < length base = omega arith in
    elements_more (IsSoundElement c.args.txns.now c.args.place c.args.key base) base i low c.loop-element.invariant (c.in_default.ensures base c.requires.marked (place_included base i low))

pub returns : goal.returns
returns c = λ element h.
    c.loop-element.invariant element (subst (λ xs. includes xs element ≡ true) (sym (take_all c.loop-element.element-index c.args.base.now c.loop-element-test.false)) h)
