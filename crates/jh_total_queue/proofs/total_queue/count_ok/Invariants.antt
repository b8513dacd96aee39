use Rattle.std.proofs.Common.{◌≡◌, take}
use Rattle.std.specs.List.{sum_by}
use Rattle.jh_edn.specs.View.{views}
use Rattle.jh_total_queue.specs.CountsInside.{ok_times, times_of}
use Rattle.jh_total_queue.proofs.total_queue.count_ok.Given as goal

abbrev pub invariant-loop-value : goal.invariant-loop-value
invariant-loop-value l = l.total ≡ sum_by (λ x. ok_times (times_of l.lists x)) (views (take l.value-index l.values))
