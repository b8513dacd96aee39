use Rattle.std.proofs.Common.{◌<◌, ◌∙◌, length, arith, rules, None, ◌∷◌, [], length-append}
use Rattle.jh_tables.proofs.AllEntriesLemmas.{one_more, used_more}
use Rattle.jh_tables.proofs.counted.reach.Goals as goal

pub loop-place-preserved : goal.loop-place-preserved
loop-place-preserved c =
    let items = c.loop-place.entries.items in
    let kept = c.loop-place.invariant in
    let few : length items < 256 = search rules in
    let long = length-append items (None ∷ []) in
    rw c.push_reserved.ensures.items
    (omega (arith, kept.0, long), omega (arith, few, long), rw c.push_reserved.ensures.capacity kept.2, one_more items few ∙ kept.3, used_more items ∙ kept.4)
