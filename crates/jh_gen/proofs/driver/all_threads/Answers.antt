use Rattle.std.proofs.Common.{◌≡◌, sym, subst, ◌+◌, ◌-◌, ◌++◌}
use Rattle.jh_gen.specs.DriverState.{threads_from}
use Rattle.jh_gen.proofs.DriverLemmas.{threads_push}
use Rattle.jh_gen.proofs.driver.all_threads.Goals as goal

pub loop-thread-preserved : goal.loop-thread-preserved
loop-thread-preserved c =
    subst (λ xs. xs ++ threads_from (c.loop-thread.thread + 1) (c.args.clients + 1 - (c.loop-thread.thread + 1)) ≡ threads_from 0 (c.args.clients + 1)) (sym c.in_ok-push.ensures.items)
    (threads_push c.loop-thread.threads.items c.loop-thread.thread _ _ c.loop-thread-test.true c.loop-thread.invariant)
