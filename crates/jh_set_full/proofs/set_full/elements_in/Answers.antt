use Rattle.std.proofs.Common.{◌∙◌, ap}
use Rattle.jh_edn.specs.View.{views}
use Rattle.jh_ops.specs.Operation.{operations}
use Rattle.jh_set_full.specs.Inside.{is_spot_in, spot_of}
use Rattle.jh_set_full.proofs.ResultLemmas.{filtered_more}
use Rattle.jh_set_full.proofs.set_full.elements_in.Goals as goal

pub loop-element-preserved : goal.loop-element-preserved
loop-element-preserved c =
    let history = operations c.args.history.now in
    let state = c.args.state in
    let pairs = c.args.tables.now.pairs.items in
    c.in_ok-push_wanted.ensures
    ∙ filtered_more (λ x. is_spot_in state (spot_of history pairs x)) c.args.elements.now c.loop-element.element-index c.element-item.result c.is_in-wanted.result (views c.loop-element.found.items)
    c.loop-element-test.true c.element-item.is (c.is_in-wanted.ensures ∙ ap (is_spot_in state) c.spot_of.ensures) c.loop-element.invariant
