use Rattle.std.proofs.Common.{◌+◌, ◌<◌, length, take, sym, subst, arith}
use Rattle.std.proofs.lemmas.List.{take_more}
use Rattle.jh_ops.specs.Operation.{operations}
use Rattle.jh_linear.specs.Operations.{IsLeastBad}
use Rattle.jh_linear.specs.CheckingInside.{lesser_place}
use Rattle.jh_linear.proofs.OperationLemmas.{least_more}
use Rattle.jh_linear.proofs.operations.least_bad.Goals as goal

pub loop-pair-preserved : goal.loop-pair-preserved
loop-pair-preserved c =
    let history = operations c.args.history.now in
    let pairs = c.args.pairs.now in
    let l = c.loop-pair in
    let low : l.pair-index < length pairs = omega arith in
    subst (λ least. IsLeastBad c.args.object history (take (l.pair-index + 1) pairs) least) (sym c.lesser-least.ensures)
    (subst (λ xs. IsLeastBad c.args.object history xs (lesser_place l.least c.bad_place.result)) (sym (take_more pairs l.pair-index _ low))
    (least_more c.args.object history (take l.pair-index pairs) _ l.least c.bad_place.result (sym c.bad_place.ensures) l.invariant))
