use Rattle.std.proofs.Common.{rules}
use Rattle.std.specs.Prelude.{IsSome}
use Rattle.jh_plots.proofs.TimeLemmas.{have_all, have_more}
use Rattle.jh_plots.proofs.moments.first_timeless.Goals as goal

pub loop-index-preserved : goal.loop-index-preserved
loop-index-preserved c =
    let op = c.index-history-index.result in
    let some : IsSome op.time = search rules in
    have_more c.args.history.now c.loop-index.index op c.loop-index-test.true c.index-history-index.is some c.loop-index.invariant

pub returns : goal.returns
returns c = have_all c.args.history.now c.loop-index.index c.loop-index-test.false c.loop-index.invariant
