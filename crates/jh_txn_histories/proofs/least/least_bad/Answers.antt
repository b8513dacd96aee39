use Rattle.std.proofs.Common.{◌+◌, ◌<◌, ◌≤◌, length, take, sym, subst, arith}
use Rattle.std.proofs.lemmas.List.{take_all, take_more}
use Rattle.jh_ops.specs.Operation.{operations}
use Rattle.jh_ops.specs.declared.pairs.Pair.{Pair}
use Rattle.std.proofs.Common.{List}
use Rattle.jh_txn_histories.specs.Histories.{IsBadAt, bad_value_place}
use Rattle.jh_txn_histories.specs.ReadingInside.{IsLeastPlace, lesser_of_places}
use Rattle.jh_txn_histories.proofs.LeastLemmas.{least_refused, none_refused}
use Rattle.jh_txn_histories.proofs.least.least_bad.Goals as goal

pub loop-pair-init : goal.loop-pair-init
loop-pair-init c = none_refused (λ (_ : List Pair) (pair : Pair). bad_value_place (operations c.args.history.now) pair)

pub loop-pair-preserved : goal.loop-pair-preserved
loop-pair-preserved c =
    let history = operations c.args.history.now in
    let pairs = c.args.pairs.now in
    let l = c.loop-pair in
    let low : l.pair-index < length pairs = omega arith in
    subst (λ least. IsLeastPlace (IsBadAt history (take (l.pair-index + 1) pairs)) least) (sym c.lesser-least.ensures)
    (subst (λ xs. IsLeastPlace (IsBadAt history xs) (lesser_of_places l.least c.in_ok-bad_value_place.field-0)) (sym (take_more pairs l.pair-index _ low))
    (least_refused (λ (_ : List Pair) (pair : Pair). bad_value_place history pair) (take l.pair-index pairs) _ l.least c.in_ok-bad_value_place.field-0 (sym c.in_ok-bad_value_place.ensures) l.invariant))

pub returns : goal.returns
returns c =
    let pairs = c.args.pairs.now in
    let past : length pairs ≤ c.loop-pair.pair-index = omega arith in
    subst (λ xs. IsLeastPlace (IsBadAt (operations c.args.history.now) xs) c.loop-pair.least) (take_all c.loop-pair.pair-index pairs past) c.loop-pair.invariant
