use Rattle.std.proofs.Common.{◌∙◌, sym, ap, map, take}
use Rattle.std.specs.List.{filter}
use Rattle.jh_check.proofs.ListLemmas.{mapped_more}
use Rattle.jh_set_full.specs.SetFull.{greatest_of, invoke_place, is_later, later_of}
use Rattle.jh_set_full.specs.Inside.{sighted_pairs}
use Rattle.jh_set_full.proofs.PlaceLemmas.{greatest_more}
use Rattle.jh_set_full.proofs.spots.present_since.Goals as goal

pub loop-sighting-preserved : goal.loop-sighting-preserved
loop-sighting-preserved c =
    let shown = c.args.shown.now in
    let i = c.loop-sighting.sighting-index in
    let s = c.sighting-item.result in
    let later = is_later c.args.place in
    c.later_of-present.ensures
    ∙ (λ k. later_of (c.loop-sighting.invariant k) (c.invoke_behind.ensures k))
    ∙ sym (greatest_more invoke_place later (sighted_pairs (take i shown)) s.pair)
    ∙ ap (λ w. greatest_of (map invoke_place (filter later w))) (sym (mapped_more (λ t. t.pair) shown i s c.loop-sighting-test.true c.sighting-item.is))
