use Rattle.std.proofs.Common.{refl}
use Rattle.jh_checkers.proofs.finding.check_history.Goals as goal

pub returns-in_ok-check_accounts-in-Bank : goal.returns-in_ok-check_accounts-in-Bank
returns-in_ok-check_accounts-in-Bank c =
    let found = c.in_ok-check_accounts-in-Bank in
    rw c.in-Bank.is (found.ensures.0, (found.field-0, refl, found.ensures.1))

pub returns-in_ok-check_fifo-in-FifoQueue : goal.returns-in_ok-check_fifo-in-FifoQueue
returns-in_ok-check_fifo-in-FifoQueue c =
    let found = c.in_ok-check_fifo-in-FifoQueue in
    rw c.in-FifoQueue.is (found.ensures.0, (found.field-0, refl, found.ensures.1))
