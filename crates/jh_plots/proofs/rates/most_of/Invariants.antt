use Rattle.std.proofs.Common.{◌≡◌, take}
use Rattle.jh_plots.specs.Rates as rule
use Rattle.jh_plots.proofs.rates.most_of.Given as goal

abbrev pub invariant-loop-row : goal.invariant-loop-row
invariant-loop-row l = l.most ≡ rule.most_of (take l.row-index l.rows)
