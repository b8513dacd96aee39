use Rattle.std.proofs.Common.{◌≡◌, map}
use Rattle.std.specs.List.{range_with_len}
use Rattle.jh_plots.specs.Ticks as rule
use Rattle.jh_plots.proofs.ticks.latency_ticks.Given as goal

abbrev pub invariant-loop-decade : goal.invariant-loop-decade
invariant-loop-decade l = l.ticks.items ≡ map (rule.latency_tick l.decades) (range_with_len 0 l.decade)
