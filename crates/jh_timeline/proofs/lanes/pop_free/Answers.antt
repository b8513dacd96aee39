use Rattle.std.proofs.Common.{arith}
use Rattle.jh_timeline.proofs.EndLemmas.{held_from}
use Rattle.jh_timeline.proofs.lanes.pop_free.Goals as goal

pub returns-else-first-index-clause-none : goal.returns-else-first-index-clause-none
returns-else-first-index-clause-none c =
    held_from c.args.busy.now c.in_ok-first.field-0.now c.args.index c.in_ok-first.ensures.least (omega (arith, c.if-first-index.false))
