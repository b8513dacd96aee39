use Rattle.std.proofs.Common.{◌∙◌, sym, ap, map, take}
use Rattle.std.specs.Prelude.{Some}
use Rattle.jh_check.proofs.ListLemmas.{mapped_more}
use Rattle.jh_set_full.specs.SetFull.{greatest_of, later_of}
use Rattle.jh_set_full.proofs.PlaceLemmas.{greatest_pushed}
use Rattle.jh_set_full.proofs.spots.most_times.Goals as goal

pub loop-sighting-preserved : goal.loop-sighting-preserved
loop-sighting-preserved c =
    let shown = c.args.shown.now in
    let i = c.loop-sighting.sighting-index in
    let s = c.sighting-item.result in
    c.later_of-most.ensures
    ∙ (λ k. later_of (c.loop-sighting.invariant k) (Some s.times))
    ∙ greatest_pushed (map (λ t. t.times) (take i shown)) s.times
    ∙ ap greatest_of (sym (mapped_more (λ t. t.times) shown i s c.loop-sighting-test.true c.sighting-item.is))
