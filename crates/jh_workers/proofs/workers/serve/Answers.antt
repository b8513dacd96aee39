use Rattle.jh_workers.proofs.workers.serve.Goals as goal

-- the invocation before the call, and the completion after it
pub returns-clause-recorded : goal.returns-clause-recorded
returns-clause-recorded g c =
    let between = c.record_invocation.new.log_seat.seat.knows.seen in
    (c.in_ok-number.reply, c.in_ok-number.number, c.reply_ending.ensures, (between, c.in_ok-record_invocation.ensures, c.in_ok-record_completion.ensures))
