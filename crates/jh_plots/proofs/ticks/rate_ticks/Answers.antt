use Rattle.jh_plots.specs.Ticks as rule
use Rattle.jh_plots.proofs.AxisLemmas.{mapped_to}
use Rattle.jh_plots.proofs.ticks.rate_ticks.Goals as goal

pub loop-part-preserved : goal.loop-part-preserved
loop-part-preserved c =
    mapped_to (rule.rate_tick c.args.top c.parts_of-parts.result) c.loop-part.part c.loop-part.ticks.items c.push.new.self.items c.rate_tick.result
    c.loop-part.invariant c.rate_tick.ensures c.in_ok-push.ensures.items
