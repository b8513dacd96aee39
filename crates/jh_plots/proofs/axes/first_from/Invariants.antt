use Rattle.std.proofs.Common.{◌≡◌, drop, nat_le}
use Rattle.std.specs.List.{find}
use Rattle.jh_plots.proofs.axes.first_from.Given as goal

abbrev pub invariant-loop-round : goal.invariant-loop-round
invariant-loop-round l = find (λ round. nat_le l.number round) l.rounds ≡ find (λ round. nat_le l.number round) (drop l.round-index l.rounds)
