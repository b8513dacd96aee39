use Rattle.std.proofs.Common.{◌≡◌, ◌/◌, ◌+◌, map, take}
use Rattle.std.specs.List.{range_with_len}
use Rattle.jh_plots.specs.Rates.{counts_in}
use Rattle.jh_plots.proofs.rates.counts_of.Given as goal

abbrev pub invariant-loop-call : goal.invariant-loop-call
invariant-loop-call l = l.rows.items ≡ map (counts_in l.width (take l.call-index l.calls)) (range_with_len 0 (l.end / l.width + 1))
