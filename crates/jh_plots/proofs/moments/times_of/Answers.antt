use Rattle.std.proofs.Common.{◌∙◌, max, ap, arith}
use Rattle.jh_plots.proofs.TimeLemmas.{timed_more}
use Rattle.jh_plots.proofs.moments.times_of.Goals as goal

pub loop-op-preserved : goal.loop-op-preserved
loop-op-preserved c =
    let l = c.loop-op in
    timed_more c.args.history.now l.op-index l.latest c.max-latest.result l.moments.items c.push.new.self.items c.op-item.result c.loop-op-test.true c.op-item.is
    (c.max-latest.ensures ∙ ap (max l.latest) c.nanoseconds.ensures.value) (omega (arith, c.nanoseconds.ensures.value, c.nanoseconds.ensures.bound)) c.in_ok-push.ensures.items l.invariant
