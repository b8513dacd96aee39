use Rattle.std.proofs.Common.{◌∙◌, ap}
use Rattle.jh_total_queue.specs.CountsInside.{part_times, times_of}
use Rattle.jh_check.specs.Tallies.{view_tally}
use Rattle.jh_total_queue.proofs.TallyLemmas.{above_zero_more}
use Rattle.jh_total_queue.proofs.total_queue.counted_in.Goals as goal

pub loop-value-preserved : goal.loop-value-preserved
loop-value-preserved c =
    let part = c.args.part in
    let lists = c.args.lists.now in
    c.in_ok-push_counted.ensures
    ∙ above_zero_more (λ x. part_times part (times_of lists x)) c.args.values.now c.loop-value.value-index c.value-item.result c.in_part-times.result (view_tally c.loop-value.found.items)
    c.loop-value-test.true c.value-item.is (c.in_part-times.ensures ∙ ap (part_times part) c.times_of.ensures) c.loop-value.invariant
