use Rattle.std.proofs.Common.{◌≡◌, map}
use Rattle.std.specs.List.{range_with_len}
use Rattle.jh_plots.specs.Ticks as rule
use Rattle.jh_plots.proofs.ticks.rate_ticks.Given as goal

abbrev pub invariant-loop-part : goal.invariant-loop-part
invariant-loop-part l = l.ticks.items ≡ map (rule.rate_tick l.top l.parts) (range_with_len 0 l.part)
