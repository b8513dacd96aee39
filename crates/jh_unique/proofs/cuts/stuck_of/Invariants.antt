use Rattle.std.proofs.Common.{◌-◌}
use Rattle.jh_unique.specs.Cuts.{IsHalved}
use Rattle.jh_unique.proofs.cuts.stuck_of.Given as goal

abbrev pub invariant-halving : goal.invariant-halving
invariant-halving l = IsHalved l.ops l.fn.initial l.ends.items l.low l.high l.order

abbrev pub decreases-halving : goal.decreases-halving
decreases-halving l = l.high - l.low
