use Rattle.std.proofs.Common.{◌≡◌, map}
use Rattle.std.specs.List.{range_with_len}
use Rattle.jh_plots.specs.Ticks as rule
use Rattle.jh_plots.proofs.ticks.time_ticks.Given as goal

abbrev pub invariant-loop-number : goal.invariant-loop-number
invariant-loop-number l = l.ticks.items ≡ map (rule.time_tick l.end l.step) (range_with_len 0 l.number)
