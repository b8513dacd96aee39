use Rattle.std.proofs.Common.{◌∙◌, ap, arith}
use Rattle.jh_edn.specs.View.{views}
use Rattle.jh_check.specs.Distinct.{count_of}
use Rattle.jh_total_queue.specs.CountsInside.{ok_times, times_of}
use Rattle.jh_total_queue.proofs.TallyLemmas.{total_fits, total_more}
use Rattle.jh_total_queue.proofs.total_queue.count_ok.Goals as goal

pub overflow_add-total : goal.overflow_add-total
overflow_add-total c =
    let lists = c.args.lists.now in
    let fits = total_fits (λ x. ok_times (times_of lists x)) (count_of (views lists.dequeues.items)) (λ x. omega arith) c.args.values.now c.loop-value.value-index c.value-item.result c.loop-value.total c.ok-total.result
    c.loop-value-test.true c.value-item.is (c.ok-total.ensures ∙ ap ok_times c.times_of.ensures) c.loop-value.invariant in
    omega (arith, fits, c.requires.fits)

pub loop-value-preserved : goal.loop-value-preserved
loop-value-preserved c =
    let lists = c.args.lists.now in
    total_more (λ x. ok_times (times_of lists x)) c.args.values.now c.loop-value.value-index c.value-item.result c.loop-value.total c.ok-total.result
    c.loop-value-test.true c.value-item.is (c.ok-total.ensures ∙ ap ok_times c.times_of.ensures) c.loop-value.invariant
