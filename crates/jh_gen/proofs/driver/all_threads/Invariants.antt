use Rattle.std.proofs.Common.{◌≡◌, ◌-◌, ◌++◌}
use Rattle.jh_gen.specs.DriverState.{threads_from}
use Rattle.jh_gen.proofs.driver.all_threads.Given as goal

abbrev pub invariant-loop-thread : goal.invariant-loop-thread
invariant-loop-thread l = l.threads.items ++ threads_from l.thread (l.thread-end - l.thread) ≡ threads_from 0 l.thread-end
