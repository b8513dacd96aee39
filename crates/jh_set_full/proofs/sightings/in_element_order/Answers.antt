use Rattle.std.proofs.Common.{◌≡◌, ◌∙◌, ap, map, sym, subst, rules}
use Rattle.std.proofs.lemmas.List.MinMax.{ranks_by}
use Rattle.std.proofs.lemmas.List.Sorted.{answers_always}
use Rattle.jh_edn.specs.Order.{in_order, is_below}
use Rattle.jh_edn.specs.View.{view}
use Rattle.jh_edn.proofs.CitedLemmas.{edn_total, sorted_is, map_in_order}
use Rattle.jh_check.specs.Distinct.{Ascends}
use Rattle.jh_check.proofs.DistinctLemmas.{sorted_ascends}
use Rattle.jh_set_full.specs.Inside.{seen, seen_below}
use Rattle.jh_set_full.specs.declared.sightings.Sighting.{Sighting}
use Rattle.jh_set_full.proofs.SightingLemmas.{held}
use Rattle.jh_set_full.proofs.sightings.in_element_order.Goals as goal

sorted_held : (c : goal.In_ok-sort_by) → c.sort_by.new.self.items ≡ in_order held c.args.sightings.items
sorted_held c =
    let sorted = c.in_ok-sort_by.ensures in
    let ranks = ranks_by edn_total (λ (s : Sighting). view s.element) in
    sorted_is held ranks c.args.sightings.items c.sort_by.new.self.items
    (sorted.sorted held ranks (answers_always _ _ _ (λ f a r f' k. search rules)))
    (sorted.stable held ranks (answers_always _ _ _ (λ f a r f' k. search rules)))

pub returns-clause-order : goal.returns-clause-order
returns-clause-order c = ap (map seen) (sorted_held c) ∙ map_in_order seen seen_below c.args.sightings.items

pub returns-clause-ascends : goal.returns-clause-ascends
returns-clause-ascends c =
    subst Ascends (sym (ap (map (λ s. view s.element)) (sorted_held c) ∙ map_in_order (λ s. view s.element) is_below c.args.sightings.items))
    (sorted_ascends (map (λ s. view s.element) c.args.sightings.items))
