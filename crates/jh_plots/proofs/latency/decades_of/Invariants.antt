use Rattle.std.proofs.Common.{◌≡◌, ◌≤◌, ◌+◌, ◌-◌, ◌^◌, ℕ}
use Rattle.jh_plots.specs.Latencies.{last_latency}
use Rattle.jh_plots.proofs.latency.decades_of.Given as goal

abbrev pub invariant-loop-last : goal.invariant-loop-last
invariant-loop-last l = record {
  last : l.last ≡ 10 ^ (5 + l.decades);
  some : 1 ≤ l.decades;
  few : l.decades ≤ 14;
  least : (fewer : ℕ) → 1 ≤ fewer → l.greatest ≤ last_latency fewer → l.decades ≤ fewer;
}

abbrev pub decreases-loop-last : goal.decreases-loop-last
decreases-loop-last l = 14 - l.decades
