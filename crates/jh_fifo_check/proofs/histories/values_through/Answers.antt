use Rattle.std.proofs.Common.{◌++◌, ◌∷◌, [], sym, ap, ◌∙◌, get_or, take}
use Rattle.std.specs.Prelude.{None}
use Rattle.std.specs.List.{filter_map}
use Rattle.std.proofs.lemmas.List.{take_more}
use Rattle.std.proofs.lemmas.List.Elements.{filter_map-append}
use Rattle.jh_ops.specs.Operation.{operations}
use Rattle.jh_ops.specs.declared.pairs.Pair.{Pair}
use Rattle.jh_fifo_check.specs.FifoHistories.{normal_moved_by}
use Rattle.jh_fifo_check.proofs.histories.values_through.Goals as goal

pub loop-pair-preserved : goal.loop-pair-preserved
loop-pair-preserved c =
    let pairs = c.args.pairs.now in
    let i = c.loop-pair.pair-index in
    let none : Pair = record { invoke = 0; outcome = None } in
    let pair = get_or pairs i none in
    let of = normal_moved_by (operations c.args.history.now) in
    c.in_ok-push_moved.ensures
    ∙ ap (λ w. w ++ filter_map of (pair ∷ [])) c.loop-pair.invariant
    ∙ sym (filter_map-append of (take i pairs) (pair ∷ []))
    ∙ sym (ap (filter_map of) (take_more pairs i none c.loop-pair-test.true))
