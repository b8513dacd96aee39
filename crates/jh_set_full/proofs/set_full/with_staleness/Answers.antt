use Rattle.std.proofs.Common.{◌∙◌, ap}
use Rattle.jh_edn.specs.View.{view}
use Rattle.jh_ops.specs.Operation.{operations}
use Rattle.jh_set_full.specs.Inside.{spot_staleness, stale_by}
use Rattle.jh_set_full.specs.StaleView.{view_stales}
use Rattle.jh_set_full.proofs.ResultLemmas.{mapped_so}
use Rattle.jh_set_full.proofs.set_full.with_staleness.Goals as goal

pub loop-element-preserved : goal.loop-element-preserved
loop-element-preserved c =
    let history = operations c.args.history.now in
    let pairs = c.args.tables.now.pairs.items in
    let v = c.element-item.result in
    let ms = c.staleness-milliseconds.ensures ∙ ap (spot_staleness history) c.spot_of.ensures in
    c.in_ok-push_stale.ensures
    ∙ mapped_so (stale_by history pairs) c.args.elements.now c.loop-element.element-index v (view v, c.staleness-milliseconds.result) (view_stales c.loop-element.found.items)
    c.loop-element-test.true c.element-item.is (λ i. (view v, ms i)) c.loop-element.invariant
