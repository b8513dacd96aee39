use Rattle.jh_plots.specs.Ticks as rule
use Rattle.jh_plots.proofs.AxisLemmas.{mapped_to}
use Rattle.jh_plots.proofs.ticks.latency_ticks.Goals as goal

pub loop-decade-preserved : goal.loop-decade-preserved
loop-decade-preserved c =
    mapped_to (rule.latency_tick c.args.decades) c.loop-decade.decade c.loop-decade.ticks.items c.push.new.self.items c.latency_tick.result
    c.loop-decade.invariant c.latency_tick.ensures c.in_ok-push.ensures.items
