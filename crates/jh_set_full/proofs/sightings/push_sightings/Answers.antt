use Rattle.std.proofs.Common.{◌++◌, ap, ◌∙◌, map}
use Rattle.jh_edn.specs.Normal.{normal}
use Rattle.jh_edn.specs.View.{views}
use Rattle.jh_set_full.specs.Inside.{counted_in_order, seen, counted_by}
use Rattle.jh_set_full.proofs.SightingLemmas.{counted_sorted}
use Rattle.jh_set_full.proofs.sightings.push_sightings.Goals as goal

pub returns : goal.returns
returns c =
    let before = map seen c.args.found.now.items in
    let pair = c.args.pair in
    c.in_ok-push_counted.ensures
    ∙ ap (λ w. before ++ map (counted_by pair) (counted_in_order w)) (ap views c.deref.ensures.value ∙ c.in_ok-elements.ensures.values)
    ∙ ap (λ w. before ++ map (counted_by pair) w) (counted_sorted (map normal (views c.args.items.now)))
