use Rattle.std.proofs.Common.{◌≡◌, take}
use Rattle.jh_plots.specs.RatesInside.{rows_of}
use Rattle.jh_plots.proofs.rates.rates_of.Given as goal

abbrev pub invariant-loop-window : goal.invariant-loop-window
invariant-loop-window l = l.rates.items ≡ rows_of l.scale (take l.window l.counts)
