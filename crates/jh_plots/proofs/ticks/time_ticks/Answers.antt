use Rattle.jh_plots.specs.Ticks as rule
use Rattle.jh_plots.proofs.AxisLemmas.{mapped_to}
use Rattle.jh_plots.proofs.ticks.time_ticks.Goals as goal

pub loop-number-preserved : goal.loop-number-preserved
loop-number-preserved c =
    mapped_to (rule.time_tick c.args.end c.time_step_ms-step.result) c.loop-number.number c.loop-number.ticks.items c.push.new.self.items c.time_tick.result
    c.loop-number.invariant c.time_tick.ensures c.in_ok-push.ensures.items
