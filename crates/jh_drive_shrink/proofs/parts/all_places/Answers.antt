use Rattle.std.proofs.Common.{◌∙◌, ◌<◌, ◌++◌, ◌∷◌, [], length, arith, sym, ap}
use Rattle.std.proofs.lemmas.List.FromFn.{length-map-range_with_len, map-range_with_len_more}
use Rattle.jh_drive_shrink.specs.PartsInside.{place_entry}
use Rattle.jh_drive_shrink.proofs.parts.all_places.Goals as goal

-- a test has not more entries than a schedule has
pub unreachable-requires : goal.unreachable-requires
unreachable-requires c =
    let many : 1024 < length c.loop-place.places.items = c.in-Err.ensures in
    let same = ap length c.loop-place.invariant ∙ length-map-range_with_len place_entry 0 c.loop-place.place in
    let few = c.clients-clients.ensures.fit.schedule.0 in
    let is = ap length c.schedule-count.ensures.schedule in
    absurd (omega (arith, many, same, few, is))

pub loop-place-preserved : goal.loop-place-preserved
loop-place-preserved c =
    c.in_ok-push.ensures.items ∙ ap (λ l. l ++ place_entry c.loop-place.place ∷ []) c.loop-place.invariant
    ∙ sym (map-range_with_len_more place_entry 0 c.loop-place.place c.loop-place.place (omega arith))
