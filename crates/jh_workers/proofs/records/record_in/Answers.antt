use Rattle.std.proofs.Common.{ap, arith}
use Rattle.jh_slots.specs.Seats.{Void}
use Rattle.jh_workers.specs.Gather.{is_record}
use Rattle.jh_workers.proofs.RowLemmas.{saw_at, saw_below, long_is_bad, seen_is_bad}
use Rattle.jh_workers.proofs.records.record_in.Goals as goal

pub returns-in-Void-clause-found : goal.returns-in-Void-clause-found
returns-in-Void-clause-found c = ap is_record (saw_at c.args.seat.now.knows c.read.new.seat.knows c.args.row Void c.in-Void.ensures.read.0)

pub returns-in-Void-clause-others : goal.returns-in-Void-clause-others
returns-in-Void-clause-others c = saw_below c.args.seat.now.knows c.read.new.seat.knows c.args.row Void c.in-Void.ensures.read.0

pub returns-in-TooSmall-clause-refused : goal.returns-in-TooSmall-clause-refused
returns-in-TooSmall-clause-refused c =
    let read = c.in-TooSmall.ensures.read in
    let more = read.0 in
    (omega arith, long_is_bad c.args.seat.now.knows c.read.new.seat.knows c.args.row c.in-TooSmall.field-0 (omega (arith, more)) read.1 read.3)

pub returns-in-Ok-clause-found : goal.returns-in-Ok-clause-found
returns-in-Ok-clause-found c =
    (_, saw_at c.args.seat.now.knows c.read.new.seat.knows c.args.row _ c.in-Words.ensures.read.2, c.in-Ok.ensures)

pub returns-in-Ok-clause-others : goal.returns-in-Ok-clause-others
returns-in-Ok-clause-others c = saw_below c.args.seat.now.knows c.read.new.seat.knows c.args.row _ c.in-Words.ensures.read.2

pub returns-in-Err-clause-others : goal.returns-in-Err-clause-others
returns-in-Err-clause-others c = saw_below c.args.seat.now.knows c.read.new.seat.knows c.args.row _ c.in-Words.ensures.read.2

pub returns-in-Err-clause-refused : goal.returns-in-Err-clause-refused
returns-in-Err-clause-refused c =
    seen_is_bad c.read.new.seat.knows.seen c.args.row _ c.in-Err.error
    (saw_at c.args.seat.now.knows c.read.new.seat.knows c.args.row _ c.in-Words.ensures.read.2) c.in-Err.ensures
