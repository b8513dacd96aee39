use Rattle.std.proofs.Common.{◌∙◌, ap, sym, map, take, get_or}
use Rattle.std.specs.List.{filter}
use Rattle.std.proofs.lemmas.List.{take_more}
use Rattle.jh_ops.specs.Operation.{operations}
use Rattle.jh_check.specs.CounterResults.{end_place}
use Rattle.std.specs.Prelude.{None}
use Rattle.jh_ops.specs.declared.pairs.Pair.{Pair}
use Rattle.jh_set_full.specs.SetFull.{earlier_of, shows_no_elements, least}
use Rattle.jh_set_full.proofs.PlaceLemmas.{least_more}
use Rattle.jh_set_full.proofs.shown.first_bad_read.Goals as goal

pub loop-pair-preserved : goal.loop-pair-preserved
loop-pair-preserved c =
    let history = operations c.args.history.now in
    let pairs = c.args.pairs.now in
    let i = c.loop-pair.pair-index in
    let none : Pair = record { invoke = 0; outcome = None } in
    let p = get_or pairs i none in
    c.earlier_of-first.ensures
    ∙ (λ k. earlier_of (c.loop-pair.invariant k) (c.bad_end.ensures k))
    ∙ sym (least_more end_place (shows_no_elements history) (take i pairs) p)
    ∙ ap (λ w. least (map end_place (filter (shows_no_elements history) w))) (sym (take_more pairs i none c.loop-pair-test.true))
