use Rattle.std.proofs.Common.{◌≡◌, drop}
use Rattle.jh_gen.specs.Scope.{has_busy_thread}
use Rattle.jh_gen.proofs.node.is_any_busy.Given as goal

abbrev pub invariant-loop-thread : goal.invariant-loop-thread
invariant-loop-thread l = has_busy_thread l.busy (drop l.thread-index l.threads) ≡ has_busy_thread l.busy l.threads
