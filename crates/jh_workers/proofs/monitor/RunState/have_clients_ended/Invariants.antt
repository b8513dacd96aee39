use Rattle.std.proofs.Common.{◌≡◌}
use Rattle.jh_workers.proofs.monitor.RunState.have_clients_ended.Given as goal

abbrev pub invariant-loop-thread : goal.invariant-loop-thread
invariant-loop-thread l = l.self.error ≡ l.fn.self.error
