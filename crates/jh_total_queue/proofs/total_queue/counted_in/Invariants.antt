use Rattle.std.proofs.Common.{◌≡◌, take}
use Rattle.jh_edn.specs.View.{views}
use Rattle.jh_total_queue.specs.CountsInside.{part_times, times_of}
use Rattle.jh_check.specs.Tallies.{view_tally}
use Rattle.jh_total_queue.specs.TotalQueue.{above_zero}
use Rattle.jh_total_queue.proofs.total_queue.counted_in.Given as goal

abbrev pub invariant-loop-value : goal.invariant-loop-value
invariant-loop-value l = view_tally l.found.items ≡ above_zero (λ x. part_times l.part (times_of l.lists x)) (views (take l.value-index l.values))
