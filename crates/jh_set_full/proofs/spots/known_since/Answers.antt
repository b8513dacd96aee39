use Rattle.std.proofs.Common.{◌∙◌, sym, ap, map, take}
use Rattle.std.specs.List.{filter, cons_option}
use Rattle.jh_ops.specs.Operation.{operations}
use Rattle.jh_check.specs.CounterResults.{end_place}
use Rattle.jh_check.proofs.ListLemmas.{mapped_more}
use Rattle.jh_set_full.specs.SetFull.{earlier_of, is_later, least, ok_end}
use Rattle.jh_set_full.specs.Inside.{sighted_pairs}
use Rattle.jh_set_full.proofs.PlaceLemmas.{least_with_more}
use Rattle.jh_set_full.proofs.spots.known_since.Goals as goal

pub loop-sighting-preserved : goal.loop-sighting-preserved
loop-sighting-preserved c =
    let shown = c.args.shown.now in
    let i = c.loop-sighting.sighting-index in
    let s = c.sighting-item.result in
    let own = ok_end (operations c.args.history.now) c.args.add in
    let later = is_later c.args.add.invoke in
    c.earlier_of-known.ensures
    ∙ (λ k. earlier_of (c.loop-sighting.invariant k) (c.end_behind.ensures k))
    ∙ sym (least_with_more own end_place later (sighted_pairs (take i shown)) s.pair)
    ∙ ap (λ w. least (cons_option own (map end_place (filter later w)))) (sym (mapped_more (λ t. t.pair) shown i s c.loop-sighting-test.true c.sighting-item.is))
