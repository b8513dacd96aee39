use Rattle.jh_workers.proofs.workers.apply_entry.Goals as goal

-- the entry's beginning before its step, and its end after it
pub returns-clause-recorded : goal.returns-clause-recorded
returns-clause-recorded g c =
    let between = c.record_begin.new.log_seat.seat.knows.seen in
    (c.in_ok-event.answer, c.in_ok-event.event, (between, c.in_ok-record_begin.ensures, c.in_ok-record_end.ensures))
