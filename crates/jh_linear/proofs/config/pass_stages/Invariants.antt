use Rattle.std.proofs.Common.{◌-◌, ◌≤◌, List, ℕ}
use Rattle.jh_linear.specs.SearchInside.{IsAt, stages_in}
use Rattle.jh_linear.proofs.config.pass_stages.Given as goal

abbrev pub invariant-stages : goal.invariant-stages
invariant-stages l = record {
  rises : l.stage ≤ l.later;
  low : l.later ≤ stages_in l.problem;
  at : (order : List ℕ) → IsAt l.problem.sorted.arrivals.items l.problem.sorted.stages.items order l.stage l.fn.pending.items → IsAt l.problem.sorted.arrivals.items l.problem.sorted.stages.items order l.later l.pending.items;
}

abbrev pub decreases-stages : goal.decreases-stages
decreases-stages l = stages_in l.problem - l.later
